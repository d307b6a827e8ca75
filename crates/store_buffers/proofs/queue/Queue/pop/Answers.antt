use Rattle.std.proofs.Common.{◌∙◌, drop, ap, map}
use Rattle.store_buffers.specs.Buffers.{values_to, with_values}
use Rattle.store_buffers.specs.helpers.Seen.{entry_of, stores_by_cell}
use Rattle.store_buffers.proofs.Queues.{by_cell-rest}
use Rattle.store_buffers.proofs.queue.Queue.pop.Goals as goal

pub invariant_of-self-2 : goal.invariant_of-self-2
invariant_of-self-2 c =
    let k = c.in_ok-store.store.cell in
    c.pop.ensures.rest
    ∙ ap (λ s. with_values s k (drop 1 (values_to s k)))
    (c.self.invariant ∙ ap (λ stores. stores_by_cell (map entry_of stores)) c.in_ok-store.ensures.items)
    ∙ by_cell-rest (entry_of c.in_ok-store.store) (map entry_of c.pop_front.new.self.items)
