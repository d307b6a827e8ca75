use Rattle.std.proofs.Common.{◌≡◌, true, subst, sym, ap, refl, ◌∙◌}
use Rattle.std.specs.FinMap as map
use Rattle.std.specs.Ordering.{nat_cmp}
use Rattle.std.specs.Cmp.Lexicographic.{slice_cmp}
use Rattle.std.specs.Option.{option_copied_mut, IsSome, IsSomeAnd}
use Rattle.std.specs.BTreeMap.{get_by}
use Rattle.tc_threads.proofs.ByName.{get_of_entries, map_of_update}
use Rattle.tc_threads.proofs.threads.Threads.drain.Goals as goal

pub unreachable-requires : goal.unreachable-requires
unreachable-requires g c =
    let none = get_of_entries _ _ c.args.name.now c.self.view_is ∙ sym c.get_mut.ensures.value ∙ ap option_copied_mut c.in_default.is in
    subst (λ o. IsSomeAnd o (λ t. g.M.MemoryModel.ops.may_drain t.buffer c.args.form ≡ true)) none c.requires

pub drain-requires : goal.drain-requires
drain-requires g c =
    let there = get_of_entries _ _ c.args.name.now c.self.view_is ∙ sym c.get_mut.ensures.value ∙ ap option_copied_mut c.in-Some.is in
    subst (λ o. IsSomeAnd o (λ t. g.M.MemoryModel.ops.may_drain t.buffer c.args.form ≡ true)) there c.requires

pub returns : goal.returns
returns g c =
    let there = get_of_entries _ _ c.args.name.now c.self.view_is ∙ sym c.get_mut.ensures.value ∙ ap option_copied_mut c.in-Some.is in
    let is_there : IsSome (get_by (slice_cmp nat_cmp c.args.name.now) c.self.inside.by_name) =
    subst IsSome (sym (ap option_copied_mut c.in-Some.is) ∙ c.get_mut.ensures.value) refl in
    let put =
    map_of_update c.self.inside.by_name.entries (c.get_mut.follows.lender c.drain.new.self).entries c.args.name.now c.drain.new.self
    ((c.get_mut.follows.holds c.drain.new.self).3 is_there).0
    ∙ ap (λ m. map.insert m c.args.name.now c.drain.new.self) c.self.view_is in
    rw there (record {
      cell = c.drain.ensures.cell;
      value = c.drain.ensures.value;
      rest = put ∙ ap (map.insert c.args.self.now c.args.name.now) c.drain.ensures.rest;
    })
