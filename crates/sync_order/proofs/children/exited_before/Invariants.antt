use Rattle.std.proofs.Common.{◌≡◌, map, filter, take}
use Rattle.sync_order.specs.Children.{exit_before, is_exit}
use Rattle.sync_order.proofs.children.exited_before.Given as goal

abbrev pub invariant-loop-event : goal.invariant-loop-event
invariant-loop-event l =
    l.ends.items ≡ map (exit_before l.events l.place l.link l.child) (filter (λ x. is_exit x.kind) (take l.event-index l.event-items))
