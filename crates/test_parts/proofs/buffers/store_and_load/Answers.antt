use Rattle.std.proofs.Common.{◌∙◌, ap, sym, w32}
use Rattle.std.proofs.lemmas.Int.{to_z-of_z}
use Rattle.store_buffers.specs.helpers.Lists.{store_last, newest_last}
use Rattle.test_parts.proofs.buffers.store_and_load.Goals as goal

pub returns : goal.returns
returns g c = λ pending stands.
    let now = store_last g.M.MemoryModel.ops c.args.buffer.now pending c.args.cell c.args.value (sym g.met.M.MemoryModel.buffered ∙ c.requires) stands in
    c.forward.ensures
    ∙ ap (λ b. g.M.MemoryModel.ops.forward b c.args.cell) c.in_ok-issue.ensures.ok
    ∙ ap (λ v. g.M.MemoryModel.ops.forward (g.M.MemoryModel.ops.issue c.args.buffer.now c.args.cell v) c.args.cell) (to_z-of_z w32 c.args.value c.ranges.value)
    ∙ g.met.M.MemoryModel.laws.forward_stands _ _ c.args.cell now
    ∙ newest_last pending c.args.cell c.args.value
