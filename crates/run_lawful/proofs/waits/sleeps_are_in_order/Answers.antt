use Rattle.run_lawful.proofs.of_waits.Conditions.{condition_rule}
use Rattle.run_lawful.proofs.waits.sleeps_are_in_order.Goals as goal

pub returns : goal.returns
returns g c = λ setting nodes moves c again. condition_rule setting nodes moves again c
