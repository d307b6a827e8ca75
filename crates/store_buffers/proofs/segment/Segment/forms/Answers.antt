use Rattle.std.proofs.Common.{◌++◌, ◌∙◌, map, Some, List, ℕ, Option, ap, sym, subst}
use Rattle.std.specs.FinMap as fin
use Rattle.std.specs.Ordering.{nat_cmp}
use Rattle.std.specs.List.Sorted.{IsStrictlySortedBy}
use Rattle.store_buffers.specs.helpers.Segments.{IsTidy}
use Rattle.store_buffers.proofs.ByCell.{keys-segment_of}
use Rattle.store_buffers.proofs.Forms.{cells_are_forms}
use Rattle.store_buffers.proofs.segment.Segment.forms.Goals as goal

pub loop-cell-init : goal.loop-cell-init
loop-cell-init c =
    ap (λ (fs : List (Option ℕ)). fs ++ map (λ x. Some x) c.into_iter-cell-iterator.result) c.new-forms.ensures.items
    ∙ ap (λ (cs : List ℕ). map (λ x. Some x) cs) (c.into_iter-cell-iterator.ensures.into_iter_gives ∙ c.keys-cell-items.ensures.rest
    ∙ sym (keys-segment_of c.self.inside.by_cell.entries c.self.invariant.1) ∙ ap fin.keys c.self.view_is)

pub returns : goal.returns
returns c =
    cells_are_forms c.args.self.now c.loop-cell.forms.items c.loop-cell.cell-iterator (subst IsTidy c.self.view_is c.self.invariant.0)
    (subst (IsStrictlySortedBy nat_cmp) (sym (keys-segment_of c.self.inside.by_cell.entries c.self.invariant.1) ∙ ap fin.keys c.self.view_is)
    c.self.invariant.1)
    c.in-None.ensures.steps.0 c.loop-cell.invariant
