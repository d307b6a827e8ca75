use Rattle.std.proofs.Common.{◌≡◌, ◌++◌, drop}
use Rattle.path_walk.specs.Steps.{steps_at}
use Rattle.path_walk.specs.Fits.{started}
use Rattle.path_walk.proofs.account.started_by.Given as goal

abbrev pub invariant-loop-step : goal.invariant-loop-step
invariant-loop-step l = l.functions.items ++ started (steps_at l.code l.function (drop l.step l.places)) ≡ started (steps_at l.code l.function l.places)
