use Rattle.std.proofs.Common.{◌-◌, ◌≤◌}
use Rattle.cdcl_core.specs.helpers.States.{IsLive, IsFurther}
use Rattle.cdcl_core.proofs.state.State.go.Given as goal

abbrev pub invariant-loop-done : goal.invariant-loop-done
invariant-loop-done l = record {
  live : IsLive l.self;
  further : IsFurther l.initial.self l.self l.done;
  few : l.done ≤ l.conflicts;
}

abbrev pub decreases-loop-done : goal.decreases-loop-done
decreases-loop-done l = l.conflicts - l.done
