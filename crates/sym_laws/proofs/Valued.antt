-- The slots, tests and requests of each thread of a run are as its terms say.
use Rattle.std.proofs.Common.{◌≡◌, ◌∙◌, ℕ, ◌<◌, ◌≤◌, ℤ, List, map}
use Rattle.std.proofs.Common.{true, false, Option, Some, None, refl, ap, sym, subst, arith}
use Rattle.std.specs.Prelude.{slice_get, option_map, nat_lt}
use Rattle.std.specs.List.{AllByRecursion as Each, filter}
use Rattle.std.specs.FinMap as fin
use Rattle.std.proofs.lemmas.Bool.{lt-ltb, le-ltb}
use Rattle.std.proofs.lemmas.Option.{none-some, same_Some, slice_get-map}
use Rattle.sym_exec.specs.tc_base.Buffers.{BufferOps}
use Rattle.sym_exec.specs.run_log.Logs.{Log}
use Rattle.sym_exec.specs.tc_base.Paths.{ThreadPath}
use Rattle.sym_exec.specs.tc_base.States.{Thread, State}
use Rattle.sym_exec.specs.tc_base.declared.moves.Move.{Move}
use Rattle.sym_exec.specs.tc_code.Code.{Code}
use Rattle.sym_exec.specs.tc_code.Lawful.{IsLawful}
use Rattle.sym_exec.specs.tc_code.Run.{run}
use Rattle.sym_exec.specs.run_laws.Ints.{PassesInts}
use Rattle.path_laws.specs.run_history.History.{Deed, history}
use Rattle.sym_exec.specs.run_log.Logs.{is_log}
use Rattle.sym_exec.specs.path_walk.Fits.{Fits}
use Rattle.sym_exec.specs.path_walk.Paths.{Walk, walk_of, paths_of}
use Rattle.sym_exec.specs.sym_terms.Terms.{AreTerms}
use Rattle.sym_exec.specs.sym_terms.declared.node.Node.{Node}
use Rattle.sym_exec.specs.Executed.{Course, thread_done}
use Rattle.sym_exec.specs.Alone.{outcome_by}
use Rattle.sym_exec.specs.declared.symbolic.Test.{Test}
use Rattle.path_laws.specs.Prefixes.{AreOnPaths}
use Rattle.sym_laws.specs.Valued.{AgreesWith, asked_at, found, found_before, execution, HasValues, HaveValues}
use Rattle.sym_laws.proofs.Lists.{each_append, each_weaker, each_is, front_passes}
use Rattle.sym_laws.proofs.Executed.{course_of}
use Rattle.sym_laws.proofs.Follows.{found_at_log, begins_at}
use Rattle.sym_laws.proofs.Moves.{AllFollow}
use Rattle.sym_laws.proofs.Runs.{follow_after}

module _ {B : Type 0} (ops : BufferOps B) (code : Code) (log : Log) (nodes : List Node) (loads : List ℤ) (lawful : IsLawful code) (is : is_log log ≡ true)
    (terms : AreTerms nodes) (s : State B) (h : List Deed) (follow : AllFollow ops code log nodes loads lawful is terms s h) where
  values_at : (j : ℕ) (p : ThreadPath) (c : Course) (t : Thread B) → slice_get log.threads j ≡ Some p
      → slice_get (found code log nodes).symbolic.threads j ≡ Some c → fin.get s.threads p.name ≡ Some t
      → HasValues code log nodes loads h j (walk_of code log p) c t.local
  values_at j p c t there course here =
      let x = found code log nodes in
      let w = walk_of code log p in
      let f = follow j p t there here in
      let k = t.local.steps in
      let d = execution code log nodes j w k in
      let b = begins_at code log nodes lawful is terms j p there k in
      let whole = thread_done code (paths_of code log) (found_before code log nodes j) w in
      let same : course_of w whole ≡ c = same_Some _ c (sym (found_at_log code log nodes lawful is terms j p there).course ∙ course) in
      let IsRight : Test → Type 0 = λ y. y.step < k → outcome_by x.nodes loads y ≡ y.wanted in
      subst (λ (c : Course). HasValues code log nodes loads h j w c t.local) same (record {
        slots = f.slots;
        tests = λ y one. each_is IsRight y whole.tests
            (subst (Each IsRight) (sym b.tests) (each_append IsRight d.tests b.test
            (each_weaker (λ y. outcome_by x.nodes loads y ≡ y.wanted) IsRight d.tests (λ y e lt. e) f.tests)
            (each_weaker (λ y. d.steps ≤ y.step) IsRight b.test (λ y le lt. absurd (omega (arith, le, lt, f.steps))) b.tested))) one;
        accesses = f.accesses ∙ ap (map (asked_at x.nodes loads)) (sym (ap (filter (λ a. nat_lt a.step k)) b.accesses
            ∙ front_passes (λ a. nat_lt a.step k) d.accesses b.found
            (each_weaker (λ a. a.step < k) (λ a. nat_lt a.step k ≡ true) d.accesses (λ a lt. lt-ltb a.step k lt) f.before)
            (each_weaker (λ a. d.steps ≤ a.step) (λ a. nat_lt a.step k ≡ false) b.found (λ a le. le-ltb a.step k (omega (arith, le, f.steps))) b.accessed)));
      })

  pub have_values : HaveValues code log nodes loads h s
  have_values j w c t wt ct tt = by (slice_get log.threads j) refl
    where
      by : (o : Option ThreadPath) → slice_get log.threads j ≡ o → HasValues code log nodes loads h j w c t.local
      by None none = absurd (none-some w (sym (slice_get-map (walk_of code log) log.threads j ∙ ap (option_map (walk_of code log)) none) ∙ wt))
      by (Some p) there =
          let same : walk_of code log p ≡ w =
          same_Some (walk_of code log p) w (sym (slice_get-map (walk_of code log) log.threads j ∙ ap (option_map (walk_of code log)) there) ∙ wt) in
          subst (λ w. HasValues code log nodes loads h j w c t.local) same
          (values_at j p c t there ct (ap (λ (w : Walk). fin.get s.threads w.name) same ∙ tt))

-- the terms give the right values after each run on the paths
pub valued : {B : Type 0} (ops : BufferOps B) (code : Code) (log : Log) (nodes : List Node) (loads : List ℤ) → PassesInts ops → IsLawful code
    → is_log log ≡ true → Fits code log → AreTerms nodes → (moves : List Move) (s : State B) → run ops code moves ≡ Some s → AreOnPaths log s
    → AgreesWith (found code log nodes).symbolic loads (history ops code moves) → HaveValues code log nodes loads (history ops code moves) s
valued ops code log nodes loads ints lawful is fits terms moves s leads on agrees =
    have_values ops code log nodes loads lawful is terms s (history ops code moves)
    (follow_after ops code log nodes loads ints lawful is fits terms moves s leads on agrees)
