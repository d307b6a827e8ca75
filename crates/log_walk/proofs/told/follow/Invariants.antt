use Rattle.std.proofs.Common.{◌≡◌, ◌-◌, ◌≤◌, drop, length}
use Rattle.log_walk.specs.Told.{told, told_from}
use Rattle.log_walk.proofs.told.follow.Given as goal

abbrev pub invariant-loop-step : goal.invariant-loop-step
invariant-loop-step l = record {
  told : told_from l.code l.function (l.path.steps - l.step) (drop l.used l.path.outcomes) l.told ≡ told l.code l.function l.path;
  few : length l.told.created ≤ l.step;
}
