use Rattle.std.proofs.Common.{◌+◌, ◌<◌, ◌^◌, subst, sym, ap, refl, ◌∙◌, IfSome}
use Rattle.std.specs.FinMap as map
use Rattle.std.specs.Ordering.{nat_cmp}
use Rattle.std.specs.Cmp.Lexicographic.{slice_cmp}
use Rattle.std.specs.Option.{option_copied_mut, IsSome}
use Rattle.std.specs.BTreeMap.{get_by}
use Rattle.tc_threads.proofs.ByName.{get_of_entries, map_of_update}
use Rattle.tc_threads.proofs.threads.Threads.stop.Goals as goal
use Rattle.tc_threads.proofs.threads.Threads.stop.Goals.{in-Some, in_default}

pub count_step-requires : goal.count_step-requires
count_step-requires g c =
    let there = get_of_entries _ _ c.args.name.now c.self.view_is ∙ sym c.get_mut.ensures.value ∙ ap option_copied_mut c.in-Some.is in
    subst (λ o. IfSome o (λ t. t.local.steps + 1 < 2 ^ 32)) there c.requires

pub returns : goal.returns
returns g c = elim c.match-get_mut.branch [
  | in-Some w ↦
      let there = get_of_entries _ _ c.args.name.now c.self.view_is ∙ sym c.get_mut.ensures.value ∙ ap option_copied_mut w.in-Some.is in
      let is_there : IsSome (get_by (slice_cmp nat_cmp c.args.name.now) c.self.inside.by_name) =
      subst IsSome (sym (ap option_copied_mut w.in-Some.is) ∙ c.get_mut.ensures.value) refl in
      let put =
      map_of_update c.self.inside.by_name.entries (c.get_mut.follows.lender w.count_step.new.self).entries c.args.name.now w.count_step.new.self
      ((c.get_mut.follows.holds w.count_step.new.self).3 is_there).0 in
      rw (there, w.self-inside-is) (put ∙ ap (λ m. map.insert m c.args.name.now w.count_step.new.self) c.self.view_is
      ∙ ap (map.insert c.args.self.now c.args.name.now) w.count_step.ensures)
  | in_default w ↦
      rw (get_of_entries _ _ c.args.name.now c.self.view_is ∙ sym c.get_mut.ensures.value ∙ ap option_copied_mut w.in_default.is) tt
]
