use Rattle.switch_order.proofs.Levels.{levels_mean}
use Rattle.switch_order.proofs.levels_mean.Goals as goal

pub returns : goal.returns
returns c = λ y threads failing most f ready. levels_mean y threads failing most f ready
