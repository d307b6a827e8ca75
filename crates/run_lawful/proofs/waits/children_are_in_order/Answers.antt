use Rattle.run_lawful.proofs.of_waits.Children.{child_rule}
use Rattle.run_lawful.proofs.waits.children_are_in_order.Goals as goal

pub returns : goal.returns
returns g c = λ setting nodes moves c again. child_rule setting nodes moves again c
