use Rattle.std.proofs.Common.{◌≡◌, ◌∙◌, sym, ap, subst, refl, false, List, ℤ, drop, slice_get}
use Rattle.std.specs.Ordering.{nat_cmp}
use Rattle.std.specs.Option.{option_copied_mut, IsSome}
use Rattle.std.specs.BTreeMap.{get_by}
use Rattle.std.proofs.lemmas.Bool.{false≢true}
use Rattle.store_buffers.specs.Buffers.{values_to, with_values}
use Rattle.list_laws.specs.Lists.{is_nil}
use Rattle.store_buffers.proofs.ByCell.{entry_values, put_values, tidy_put}
use Rattle.store_buffers.proofs.segment.Segment.pop_one.Goals as goal
use Rattle.store_buffers.proofs.segment.Segment.pop_one.Goals.{in-Some, in-None}

pub invariant_of-self : goal.invariant_of-self
invariant_of-self c = elim c.match-get_mut.branch [
  | in-Some w ↦
      let there = entry_values _ _ c.args.cell _ c.self.view_is (sym c.get_mut.ensures.value ∙ ap option_copied_mut w.in-Some.is) in
      let is_there : IsSome (get_by (nat_cmp c.args.cell) c.self.inside.by_cell) = subst IsSome (sym (ap option_copied_mut w.in-Some.is)
      ∙ c.get_mut.ensures.value) refl in
      let some : is_nil w.pop.new.self ≡ false = ap is_nil (w.pop.ensures.rest ∙ ap (λ (vs : List ℤ). drop 1 vs) (sym there)) ∙ c.requires in
      let put = put_values c.self.inside.by_cell.entries (c.get_mut.follows.lender w.pop.new.self).entries c.args.self.now c.args.cell w.pop.new.self
      c.self.view_is some ((c.get_mut.follows.holds w.pop.new.self).3 is_there).0 in
      rw w.self-inside-is (tidy_put _ _ _ c.args.cell w.pop.new.self c.self.view_is c.self.invariant.0 put, (c.get_mut.follows.holds w.pop.new.self).4)
  | in-None w ↦ absurd (false≢true (sym c.requires ∙ ap (λ (vs : List ℤ). is_nil (drop 1 vs))
      (entry_values _ _ c.args.cell _ c.self.view_is (sym c.get_mut.ensures.value ∙ ap option_copied_mut w.in-None.is))))
]

pub returns-clause-first : goal.returns-clause-first
returns-clause-first c = elim c.match-get_mut.branch [
  | in-Some w ↦ w.result-is ∙ w.pop.ensures.first ∙ sym
      (ap (λ (vs : List ℤ). slice_get vs 0) (entry_values _ _ c.args.cell _ c.self.view_is (sym c.get_mut.ensures.value ∙ ap option_copied_mut w.in-Some.is)))
  | in-None w ↦ w.result-is ∙ sym (ap (λ (vs : List ℤ). slice_get vs 0)
      (entry_values _ _ c.args.cell _ c.self.view_is (sym c.get_mut.ensures.value ∙ ap option_copied_mut w.in-None.is)))
]

pub returns-clause-rest : goal.returns-clause-rest
returns-clause-rest c = elim c.match-get_mut.branch [
  | in-Some w ↦
      let there = entry_values _ _ c.args.cell _ c.self.view_is (sym c.get_mut.ensures.value ∙ ap option_copied_mut w.in-Some.is) in
      let is_there : IsSome (get_by (nat_cmp c.args.cell) c.self.inside.by_cell) = subst IsSome (sym (ap option_copied_mut w.in-Some.is)
      ∙ c.get_mut.ensures.value) refl in
      let left : w.pop.new.self ≡ drop 1 (values_to c.args.self.now c.args.cell) = w.pop.ensures.rest ∙ ap (λ (vs : List ℤ). drop 1 vs) (sym there) in
      rw w.self-inside-is
      (put_values c.self.inside.by_cell.entries (c.get_mut.follows.lender w.pop.new.self).entries c.args.self.now c.args.cell w.pop.new.self
      c.self.view_is (ap is_nil left ∙ c.requires) ((c.get_mut.follows.holds w.pop.new.self).3 is_there).0
      ∙ ap (with_values c.args.self.now c.args.cell) left)
  | in-None w ↦ absurd (false≢true (sym c.requires ∙ ap (λ (vs : List ℤ). is_nil (drop 1 vs))
      (entry_values _ _ c.args.cell _ c.self.view_is (sym c.get_mut.ensures.value ∙ ap option_copied_mut w.in-None.is))))
]
