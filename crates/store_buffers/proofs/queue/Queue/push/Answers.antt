use Rattle.std.proofs.Common.{◌∙◌, [], ◌∷◌, ◌++◌, ap, map, sym, w32, to_z, of_z}
use Rattle.std.proofs.lemmas.List.{map-append}
use Rattle.store_buffers.specs.Buffers.{values_to, with_values}
use Rattle.store_buffers.specs.helpers.Seen.{entry_of, stores_by_cell}
use Rattle.store_buffers.proofs.Queues.{by_cell-end}
use Rattle.store_buffers.proofs.queue.Queue.push.Goals as goal

pub invariant_of-self-in_default : goal.invariant_of-self-in_default
invariant_of-self-in_default c =
    let k = c.args.cell in
    let v = to_z w32 (of_z w32 c.args.value) in
    let stores = c.self.inside.stores.items in
    c.in_default.ensures.ok
    ∙ ap (λ s. with_values s k (values_to s k ++ v ∷ [])) c.self.invariant
    ∙ by_cell-end (map entry_of stores) k v
    ∙ ap stores_by_cell (sym (ap (map entry_of) c.in_ok-push_back.ensures.items ∙ map-append entry_of stores _))
