use Rattle.std.proofs.Common.{◌∙◌, ◌∷◌, ◌++◌, [], sym, ap, subst, refl, w32}
use Rattle.std.specs.Ordering.{nat_cmp}
use Rattle.std.specs.Option.{option_copied_mut, IsSome}
use Rattle.std.specs.BTreeMap.{get_by}
use Rattle.std.proofs.lemmas.Bool.{false≢true}
use Rattle.std.proofs.lemmas.Result.{on_ok_weaker, on_err_weaker}
use Rattle.std.proofs.lemmas.Int.{to_z-of_z}
use Rattle.store_buffers.specs.Buffers.{with_values}
use Rattle.list_laws.specs.Lists.{is_nil}
use Rattle.store_buffers.specs.helpers.Segments.{IsTidy}
use Rattle.store_buffers.proofs.ByCell.{entry_values, put_values, tidy_put, some_after, with_values-same}
use Rattle.store_buffers.proofs.segment.Segment.grow.Goals as goal
use Rattle.store_buffers.proofs.segment.Segment.grow.Goals.{in-Some, in-None}

pub invariant_of-self : goal.invariant_of-self
invariant_of-self c = elim c.match-get_mut.branch [
  | in-Some w ↦
      let there = entry_values _ _ c.args.cell _ c.self.view_is (sym c.get_mut.ensures.value ∙ ap option_copied_mut w.in-Some.is) in
      let is_there : IsSome (get_by (nat_cmp c.args.cell) c.self.inside.by_cell) = subst IsSome (sym (ap option_copied_mut w.in-Some.is)
      ∙ c.get_mut.ensures.value) refl in
      let some = some_after w.push.result w.in-Some.values.now w.push.new.self _ w.push.ensures.ok w.push.ensures.err (sym (ap is_nil there) ∙ c.requires) in
      let put = put_values c.self.inside.by_cell.entries (c.get_mut.follows.lender w.push.new.self).entries c.args.self.now c.args.cell
      w.push.new.self c.self.view_is some ((c.get_mut.follows.holds w.push.new.self).3 is_there).0 in
      rw w.self-inside-is (tidy_put _ _ _ c.args.cell w.push.new.self c.self.view_is c.self.invariant.0 put, (c.get_mut.follows.holds w.push.new.self).4)
  | in-None w ↦ absurd (false≢true (sym c.requires ∙ ap is_nil
      (entry_values _ _ c.args.cell _ c.self.view_is (sym c.get_mut.ensures.value ∙ ap option_copied_mut w.in-None.is))))
]

pub returns-clause-ok : goal.returns-clause-ok
returns-clause-ok c = elim c.match-get_mut.branch [
  | in-Some w ↦
      let there = entry_values _ _ c.args.cell _ c.self.view_is (sym c.get_mut.ensures.value ∙ ap option_copied_mut w.in-Some.is) in
      let is_there : IsSome (get_by (nat_cmp c.args.cell) c.self.inside.by_cell) = subst IsSome (sym (ap option_copied_mut w.in-Some.is)
      ∙ c.get_mut.ensures.value) refl in
      let some = some_after w.push.result w.in-Some.values.now w.push.new.self _ w.push.ensures.ok w.push.ensures.err (sym (ap is_nil there) ∙ c.requires) in
      let put = put_values c.self.inside.by_cell.entries (c.get_mut.follows.lender w.push.new.self).entries c.args.self.now c.args.cell
      w.push.new.self c.self.view_is some ((c.get_mut.follows.holds w.push.new.self).3 is_there).0 in
      rw (w.result-is, w.self-inside-is, there) (on_ok_weaker w.push.result
      (λ done. put ∙ ap (with_values c.args.self.now c.args.cell) (done
      ∙ ap (λ v. w.in-Some.values.now ++ v ∷ []) (to_z-of_z w32 c.args.value c.ranges.value))) w.push.ensures.ok)
  | in-None w ↦ absurd (false≢true (sym c.requires ∙ ap is_nil
      (entry_values _ _ c.args.cell _ c.self.view_is (sym c.get_mut.ensures.value ∙ ap option_copied_mut w.in-None.is))))
]

pub returns-clause-err : goal.returns-clause-err
returns-clause-err c = elim c.match-get_mut.branch [
  | in-Some w ↦
      let there = entry_values _ _ c.args.cell _ c.self.view_is (sym c.get_mut.ensures.value ∙ ap option_copied_mut w.in-Some.is) in
      let is_there : IsSome (get_by (nat_cmp c.args.cell) c.self.inside.by_cell) = subst IsSome (sym (ap option_copied_mut w.in-Some.is)
      ∙ c.get_mut.ensures.value) refl in
      let some = some_after w.push.result w.in-Some.values.now w.push.new.self _ w.push.ensures.ok w.push.ensures.err (sym (ap is_nil there) ∙ c.requires) in
      let put = put_values c.self.inside.by_cell.entries (c.get_mut.follows.lender w.push.new.self).entries c.args.self.now c.args.cell
      w.push.new.self c.self.view_is some ((c.get_mut.follows.holds w.push.new.self).3 is_there).0 in
      rw (w.result-is, w.self-inside-is) (on_err_weaker w.push.result (λ same. put ∙ ap (with_values c.args.self.now c.args.cell) (same ∙ sym there)
      ∙ with_values-same c.args.self.now c.args.cell (subst IsTidy c.self.view_is c.self.invariant.0)) w.push.ensures.err)
  | in-None w ↦ absurd (false≢true (sym c.requires ∙ ap is_nil
      (entry_values _ _ c.args.cell _ c.self.view_is (sym c.get_mut.ensures.value ∙ ap option_copied_mut w.in-None.is))))
]
