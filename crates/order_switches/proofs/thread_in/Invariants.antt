use Rattle.std.proofs.Common.{◌≡◌, drop}
use Rattle.order_switches.specs.Switches.{thread_in}
use Rattle.order_switches.proofs.thread_in.Given as goal

abbrev pub invariant-loop-event : goal.invariant-loop-event
invariant-loop-event l =
    thread_in (drop l.event l.threads) (drop l.event l.positions) l.position ≡ thread_in l.threads l.positions l.position
