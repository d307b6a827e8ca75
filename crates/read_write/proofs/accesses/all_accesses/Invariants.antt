use Rattle.std.proofs.Common.{◌≡◌, take}
use Rattle.order_cells.specs.lawful_order.Events.{all_from}
use Rattle.read_write.proofs.accesses.all_accesses.Given as goal

abbrev pub invariant-loop-thread : goal.invariant-loop-thread
invariant-loop-thread l = l.all.items ≡ all_from (λ c. c.accesses) 0 (take l.thread l.symbolic.threads)
