use Rattle.normal_logs.specs.Within.{at_most}
use Rattle.normal_logs.proofs.Logs.{fails_to, fails_from, few_begin}
use Rattle.normal_logs.proofs.failures_have_normal_logs.Goals as goal

pub returns-clause-allowed : goal.returns-clause-allowed
returns-clause-allowed g c = λ machine allowed begins.
    (fails_to machine allowed begins, fails_from machine allowed)

pub returns-clause-most : goal.returns-clause-most
returns-clause-most g c = λ machine most.
    (fails_to machine (at_most most) (few_begin most), fails_from machine (at_most most))
