use Rattle.std.proofs.Common.{◌∙◌, sym, ap, [], List, ℤ, slice_get}
use Rattle.store_buffers.specs.Buffers.{with_values}
use Rattle.store_buffers.proofs.ByCell.{entry_values, out_values, tidy_put}
use Rattle.store_buffers.specs.helpers.Lists.{nil_is}
use Rattle.store_buffers.proofs.segment.Segment.pop_last.Goals as goal
use Rattle.store_buffers.proofs.segment.Segment.pop_last.Goals.{in-Some, in-None}

pub invariant_of-self : goal.invariant_of-self
invariant_of-self c = (
  tidy_put _ _ _ c.args.cell [] c.self.view_is c.self.invariant.0
      (out_values c.self.inside.by_cell.entries c.remove.new.self.entries c.args.self.now c.args.cell c.self.view_is c.remove.ensures.updates.0),
  c.remove.ensures.ordered,
)

pub returns-clause-rest : goal.returns-clause-rest
returns-clause-rest c =
    out_values c.self.inside.by_cell.entries c.remove.new.self.entries c.args.self.now c.args.cell c.self.view_is c.remove.ensures.updates.0
    ∙ ap (with_values c.args.self.now c.args.cell) (sym (nil_is _ c.requires))

pub returns-clause-first : goal.returns-clause-first
returns-clause-first c = elim c.match-remove.branch [
  | in-Some w ↦ w.result-is ∙ w.pop.ensures.first ∙ sym
      (ap (λ (vs : List ℤ). slice_get vs 0) (entry_values _ _ c.args.cell _ c.self.view_is (sym c.remove.ensures.value ∙ w.in-Some.is)))
  | in-None w ↦ w.result-is ∙ sym (ap (λ (vs : List ℤ). slice_get vs 0)
      (entry_values _ _ c.args.cell _ c.self.view_is (sym c.remove.ensures.value ∙ w.in-None.is)))
]
