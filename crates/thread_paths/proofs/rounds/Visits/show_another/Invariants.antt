use Rattle.std.proofs.Common.{◌≤◌}
use Rattle.thread_paths.specs.Turns.{Keep}
use Rattle.thread_paths.proofs.rounds.Visits.show_another.Given as goal

abbrev pub invariant-loop-step : goal.invariant-loop-step
invariant-loop-step l = record {
  after : l.from ≤ l.step;
  kept : Keep l.self.program.code.now l.self.function l.self.places.now l.from l.step l.slot;
}
