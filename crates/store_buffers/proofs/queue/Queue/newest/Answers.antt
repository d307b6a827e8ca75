use Rattle.std.proofs.Common.{◌∙◌, None, ap}
use Rattle.std.specs.List.{last_or}
use Rattle.store_buffers.specs.Buffers.{newest, values_to}
use Rattle.store_buffers.proofs.Queues.{by_cell-newest}
use Rattle.store_buffers.proofs.queue.Queue.newest.Goals as goal

pub returns : goal.returns
returns c = c.last.ensures ∙ ap (λ s. last_or None (values_to s c.args.cell)) c.self.invariant ∙ by_cell-newest _ c.args.cell
    ∙ ap (λ q. newest q c.args.cell) c.self.view_is
