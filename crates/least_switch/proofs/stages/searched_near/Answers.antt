use Rattle.std.proofs.Common.{rules}
use Rattle.least_switch.proofs.Told.{is_said}
use Rattle.least_switch.proofs.stages.searched_near.Goals as goal

pub try_map-requires : goal.try_map-requires
try_map-requires g c = search (rules, is_said)
