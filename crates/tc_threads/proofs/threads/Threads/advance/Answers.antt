use Rattle.std.proofs.Common.{subst, sym, ap, refl, ◌∙◌, IfSome}
use Rattle.std.proofs.lemmas.Result.{on_ok_weaker, on_err_weaker}
use Rattle.std.specs.FinMap as map
use Rattle.std.specs.Ordering.{nat_cmp}
use Rattle.std.specs.Cmp.Lexicographic.{slice_cmp}
use Rattle.std.specs.Option.{option_copied_mut, IsSome}
use Rattle.std.specs.BTreeMap.{get_by}
use Rattle.tc_code.specs.Code.{Code}
use Rattle.tc_threads.specs.CanDo.{CanDo}
use Rattle.tc_threads.proofs.ByName.{get_of_entries, map_of_update, insert_same}
use Rattle.tc_threads.proofs.threads.Threads.advance.Goals as goal
use Rattle.tc_threads.proofs.threads.Threads.advance.Goals.{in-Some, in-None}

pub advance-requires-clause-can : goal.advance-requires-clause-can
advance-requires-clause-can g c =
    let there = get_of_entries _ _ c.args.name.now c.self.view_is ∙ sym c.get_mut.ensures.value ∙ ap option_copied_mut c.in-Some.is in
    subst (λ o. IfSome o (λ t. (code : Code) × CanDo code t.local c.args.instr.now)) there c.requires.can

pub returns : goal.returns
returns g c = elim c.match-get_mut.branch [
  | in-Some w ↦
      let there = get_of_entries _ _ c.args.name.now c.self.view_is ∙ sym c.get_mut.ensures.value ∙ ap option_copied_mut w.in-Some.is in
      let is_there : IsSome (get_by (slice_cmp nat_cmp c.args.name.now) c.self.inside.by_name) =
      subst IsSome (sym (ap option_copied_mut w.in-Some.is) ∙ c.get_mut.ensures.value) refl in
      let put =
      map_of_update c.self.inside.by_name.entries (c.get_mut.follows.lender w.advance.new.self).entries c.args.name.now w.advance.new.self
      ((c.get_mut.follows.holds w.advance.new.self).3 is_there).0
      ∙ ap (λ m. map.insert m c.args.name.now w.advance.new.self) c.self.view_is in
      record {
        ok =
            rw (there, w.result-is, w.self-inside-is) (on_ok_weaker w.advance.result
            (λ done. put ∙ ap (map.insert c.args.self.now c.args.name.now) done) w.advance.ensures.ok);
        only = rw w.result-is w.advance.ensures.only;
        err =
            rw (w.result-is, w.self-inside-is) (on_err_weaker w.advance.result
            (λ same. put ∙ ap (map.insert c.args.self.now c.args.name.now) same
            ∙ insert_same c.args.self.now c.args.name.now w.in-Some.thread.now there) w.advance.ensures.err);
      }
  | in-None w ↦ record {
    ok = rw (get_of_entries _ _ c.args.name.now c.self.view_is ∙ sym c.get_mut.ensures.value ∙ ap option_copied_mut w.in-None.is, w.result-is) tt;
    err = rw w.result-is tt;
    only = rw w.result-is tt;
  }
]
