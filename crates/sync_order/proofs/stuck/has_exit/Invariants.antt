use Rattle.std.proofs.Common.{◌≡◌, false, take}
use Rattle.std.specs.List.{list_any}
use Rattle.sync_order.specs.Children.{is_exit}
use Rattle.sync_order.proofs.stuck.has_exit.Given as goal

abbrev pub invariant-loop-event : goal.invariant-loop-event
invariant-loop-event l = list_any (λ x. is_exit x.kind) (take l.event-index l.events) ≡ false
