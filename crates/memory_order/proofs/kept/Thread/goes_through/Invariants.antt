use Rattle.std.proofs.Common.{◌≡◌, ◌&&◌, false, take}
use Rattle.std.specs.List.{list_any}
use Rattle.memory_order.specs.Own.{is_always_kept}
use Rattle.memory_order.proofs.kept.Thread.goes_through.Given as goal

abbrev pub invariant-loop-event : goal.invariant-loop-event
invariant-loop-event g l =
    let always = is_always_kept g.M.MemoryModel.BUFFERED g.M.MemoryModel.bound l.self.symbolic.now l.terms l.self.number in
    list_any (λ z. always l.two.first.now z && always z l.two.second.now) (take l.event-index l.event-items) ≡ false
