use Rattle.order_switches.proofs.Levels.{few, levels}
use Rattle.order_switches.proofs.levels_are_switches.Goals as goal

pub returns-clause-few : goal.returns-clause-few
returns-clause-few c = λ threads failing w k level is long are. few threads failing w k is long level are

pub returns-clause-levels : goal.returns-clause-levels
returns-clause-levels c = λ threads failing w k is long most. levels threads failing w k is long most
