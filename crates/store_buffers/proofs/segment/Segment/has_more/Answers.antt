use Rattle.std.proofs.Common.{◌∙◌, sym, ap, not, drop, List, ℤ}
use Rattle.std.specs.Option.{option_copied}
use Rattle.list_laws.specs.Lists.{is_nil}
use Rattle.store_buffers.proofs.ByCell.{entry_values}
use Rattle.store_buffers.proofs.segment.Segment.has_more.Goals as goal

pub returns-in-Some : goal.returns-in-Some
returns-in-Some c = c.has_more.ensures ∙ sym (ap (λ (vs : List ℤ). not (is_nil (drop 1 vs)))
    (entry_values _ _ c.args.cell _ c.self.view_is (sym c.get.ensures.value ∙ ap option_copied c.in-Some.is)))

pub returns-in-None : goal.returns-in-None
returns-in-None c = sym (ap (λ (vs : List ℤ). not (is_nil (drop 1 vs)))
    (entry_values _ _ c.args.cell _ c.self.view_is (sym c.get.ensures.value ∙ ap option_copied c.in-None.is)))
