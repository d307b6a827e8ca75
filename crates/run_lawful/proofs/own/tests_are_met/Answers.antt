use Rattle.run_lawful.proofs.of_own.Tests.{test_rule}
use Rattle.run_lawful.proofs.own.tests_are_met.Goals as goal

pub returns : goal.returns
returns g c = λ setting nodes moves t line terms again.
    test_rule setting nodes terms moves again t line
