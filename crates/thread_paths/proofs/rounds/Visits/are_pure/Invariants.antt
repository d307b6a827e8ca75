use Rattle.std.proofs.Common.{◌≤◌, ◌<◌, ℕ}
use Rattle.slot_liveness.specs.Tables.{liveness}
use Rattle.thread_paths.specs.helpers.Rounds.{IsPure}
use Rattle.thread_paths.proofs.rounds.Visits.are_pure.Given as goal

abbrev pub invariant-loop-step : goal.invariant-loop-step
invariant-loop-step l =
    (k : ℕ) → l.first ≤ k → k < l.step
    → IsPure l.self.program.code.now l.self.function l.self.places.now (liveness l.self.program.live.now) k
