-- The effect of a move on all threads, beside the executions of their paths.
use Rattle.std.proofs.Common.{◌≡◌, ◌≢◌, ◌∙◌, inl, inr, ℕ, ◌+◌, ◌-◌, ℤ, List, [], ◌∷◌, ◌++◌, map, length}
use Rattle.std.proofs.Common.{Bool, true, false, cond, Option, Some, None, refl, ap, sym, subst, arith, append-nil}
use Rattle.std.specs.Prelude.{slice_get}
use Rattle.std.specs.List.{flat_map}
use Rattle.std.specs.Option.{option_map_or}
use Rattle.std.specs.FinMap as fin
use Rattle.std.specs.Ordering.{nat_cmp}
use Rattle.std.specs.Cmp.Lexicographic.{slice_cmp}
use Rattle.std.proofs.lemmas.List.Sums.{sum_by-append}
use Rattle.std.proofs.lemmas.Option.{none-some, same_Some}
use Rattle.sym_exec.specs.tc_base.Names.{Name, ByName, child}
use Rattle.sym_exec.specs.tc_base.Buffers.{BufferOps}
use Rattle.sym_exec.specs.run_log.Logs.{Log}
use Rattle.sym_exec.specs.tc_base.Paths.{ThreadPath}
use Rattle.sym_exec.specs.tc_base.States.{Local, Thread, State}
use Rattle.sym_exec.specs.tc_base.declared.request.Request.{Request}
use Rattle.sym_exec.specs.tc_base.declared.request.Request.TheVariants.{Start}
use Rattle.sym_exec.specs.tc_code.Code.{Code}
use Rattle.sym_exec.specs.tc_code.declared.instr.Instr.{Instr}
use Rattle.sym_exec.specs.tc_code.Lawful.{IsLawful}
use Rattle.sym_exec.specs.tc_code.Run.{IsReached}
use Rattle.sym_exec.specs.tc_code.Step.{request, arguments_of, born, opening}
use Rattle.sym_exec.proofs.run_laws.Created.{child_is_new}
use Rattle.sym_exec.proofs.run_laws.Names.{get_put_cases}
use Rattle.path_laws.specs.run_history.History.{Deed, Did, Drained, same, value_taken}
use Rattle.path_laws.specs.run_history.Told.{is_step_of, steps_in}
use Rattle.path_laws.proofs.run_history.Threads.{ThreadsAre, own, with_born}
use Rattle.sym_exec.specs.run_log.Logs.{is_log}
use Rattle.path_laws.proofs.Does.{Does, Drains}
use Rattle.sym_exec.specs.path_walk.Fits.{function_of}
use Rattle.sym_exec.specs.path_walk.Paths.{walk_of}
use Rattle.sym_exec.specs.sym_terms.Terms.{AreTerms}
use Rattle.sym_exec.specs.sym_terms.Values.{value_of}
use Rattle.sym_exec.specs.sym_terms.declared.node.Node.{Node}
use Rattle.sym_exec.specs.Executed.{arguments_for}
use Rattle.sym_exec.specs.Alone.{asked_by}
use Rattle.sym_laws.specs.Valued.{AgreesWith, asked_of, found, found_before, execution}
use Rattle.sym_laws.proofs.Names.{one_place}
use Rattle.sym_laws.proofs.Follows.{Follows, GoesOnPath, asked_more, others_asked, step_follows}
use Rattle.sym_laws.proofs.Born.{start_follows, child_follows}

-- a thread that has done no step has no events
nothing_asked : (q : Name) (h : List Deed) → steps_in h q ≡ 0 → flat_map (asked_of q) h ≡ []
nothing_asked q [] none = refl
nothing_asked q (Did n k r v o ∷ h) none =
    let deed = Did n k r v o in
    let count = sum_by-append (λ d. cond (is_step_of q d) 1 0) (deed ∷ []) h in
    by (same q n) refl (omega (arith, none, count)) (nothing_asked q h)
  where
    by : (b : Bool) → same q n ≡ b → cond b 1 0 + steps_in h q ≡ 0 → (steps_in h q ≡ 0 → flat_map (asked_of q) h ≡ [])
        → flat_map (asked_of q) (Did n k r v o ∷ h) ≡ []
    by true is none rest = absurd (omega (arith, none))
    by false is none rest =
        ap (λ b. cond b (map (λ x. record { step = k; asked = x }) (asked_by v r)) [] ++ flat_map (asked_of q) h) is ∙ rest (omega (arith, none))
nothing_asked q (Drained n k c v ∷ h) none =
    let count = sum_by-append (λ d. cond (is_step_of q d) 1 0) (Drained n k c v ∷ []) h in
    nothing_asked q h (omega (arith, none, count))

module _ {B : Type 0} (ops : BufferOps B) (code : Code) (log : Log) (nodes : List Node) (loads : List ℤ) (lawful : IsLawful code) (is : is_log log ≡ true)
    (terms : AreTerms nodes) where
  abbrev FollowsAt : List Deed → ℕ → ThreadPath → Local → Type 0
  FollowsAt h j p t =
      Follows (found code log nodes).nodes loads (execution code log nodes j (walk_of code log p) t.steps) t (flat_map (asked_of p.name) h)

  -- each thread is as the terms of its path so far say
  abbrev pub AllFollow : State B → List Deed → Type 0
  AllFollow s h = (j : ℕ) (p : ThreadPath) (t : Thread B) → slice_get log.threads j ≡ Some p → fin.get s.threads p.name ≡ Some t → FollowsAt h j p t.local

  abbrev Agrees : List Deed → Type 0
  Agrees h = AgreesWith (found code log nodes).symbolic loads h

  -- the thread under a name after a request of a thread
  data Which (s : State B) (n : Name) (t : Thread B) (i : Instr) (q : Name) (x : Thread B) : Type 0 where
    Own : q ≡ n → x ≡ own ops code s t i (request t.local i) → Which s n t i q x
    Child : (f : ℕ) → request t.local i ≡ Start f → q ≡ child n (t.local.children + 1) → x ≡ born ops code f (arguments_of t.local i) → Which s n t i q x
    Another : q ≢ n → fin.get s.threads q ≡ Some x → Which s n t i q x

  abbrev put : State B → Name → Thread B → Instr → ByName (Thread B)
  put s n t i = fin.insert s.threads n (own ops code s t i (request t.local i))

  which_old : (s : State B) (n : Name) (t : Thread B) (i : Instr) (q : Name) (x : Thread B) → fin.get (put s n t i) q ≡ Some x → Which s n t i q x
  which_old s n t i q x at =
      elim (get_put_cases s.threads n (own ops code s t i (request t.local i)) q x at) [
        | inl mine ↦ Own mine.0 (sym mine.1)
        | inr old ↦ Another old.0 old.1
      ]

  which : (s : State B) (n : Name) (t : Thread B) (i : Instr) (q : Name) (x : Thread B) (r : Request) → request t.local i ≡ r
      → fin.get (with_born ops code n t i r (put s n t i)) q ≡ Some x → Which s n t i q x
  which s n t i q x (Start f) asks at =
      elim (get_put_cases (put s n t i) (child n (t.local.children + 1)) (born ops code f (arguments_of t.local i)) q x at) [
        | inl new ↦ Child f asks new.0 (sym new.1)
        | inr old ↦ which_old s n t i q x old.1
      ]
  which s n t i q x r asks at = which_old s n t i q x at

  -- A step of the thread under a path.
  module _ (s u : State B) (h : List Deed) (j : ℕ) (p : ThreadPath) (there : slice_get log.threads j ≡ Some p) (t : Thread B) (i : Instr) (o : Option Name)
      (reached : IsReached ops code s) (does : Does ops code s u p.name t i (request t.local i)) (told : ThreadsAre ops code s h) (follow : AllFollow s h)
      (functions : (q : Name) (x : Thread B) → fin.get u.threads q ≡ Some x → function_of code log q ≡ Some x.local.function)
      (goes : GoesOnPath code log p t.local i (value_taken ops code s t (request t.local i)))
      (agrees : Agrees (h ++ Did p.name t.local.steps (request t.local i) (value_taken ops code s t (request t.local i)) o ∷ [])) where
    abbrev deed : Deed
    deed = Did p.name t.local.steps (request t.local i) (value_taken ops code s t (request t.local i)) o

    own_follows : FollowsAt (h ++ deed ∷ []) j p (own ops code s t i (request t.local i)).local
    own_follows =
        step_follows code log nodes lawful is terms j p there loads h t.local i (value_taken ops code s t (request t.local i)) o goes
        (follow j p t there does.there) agrees

    fresh : fin.get s.threads (child p.name (t.local.children + 1)) ≡ None
    fresh = child_is_new ops code s p.name t reached does.there

    by_which : (k : ℕ) (q : ThreadPath) (x : Thread B) → slice_get log.threads k ≡ Some q → fin.get u.threads q.name ≡ Some x → Which s p.name t i q.name x
        → FollowsAt (h ++ deed ∷ []) k q x.local
    by_which k q x qt at (Own name mine) =
        let e : k ≡ j = one_place log is k j q p qt there name in
        let same : q ≡ p = same_Some q p (sym qt ∙ ap (slice_get log.threads) e ∙ there) in
        subst (λ (y : Thread B). FollowsAt (h ++ deed ∷ []) k q y.local) (sym mine)
        (subst (λ y. FollowsAt (h ++ deed ∷ []) k y (own ops code s t i (request t.local i)).local) (sym same)
        (subst (λ m. FollowsAt (h ++ deed ∷ []) m p (own ops code s t i (request t.local i)).local) (sym e) own_follows))
    by_which k q x qt at (Child f asks name new) =
        let function : function_of code log q.name ≡ Some f = functions q.name x at ∙ ap (λ (y : Thread B). Some y.local.function) new in
        let none : flat_map (asked_of q.name) h ≡ [] =
        nothing_asked q.name h (sym (told.steps q.name) ∙ ap (λ m. option_map_or (λ (y : Thread B). y.local.steps) (fin.get s.threads m) 0) name
        ∙ ap (λ y. option_map_or (λ (y : Thread B). y.local.steps) y 0) fresh) in
        subst (λ (y : Thread B). FollowsAt (h ++ deed ∷ []) k q y.local) (sym new)
        (child_follows code log nodes lawful is terms j p there loads h t.local i (value_taken ops code s t (request t.local i)) o goes
        (follow j p t there does.there) agrees f asks k q qt name function none)
    by_which k q x qt at (Another apart old) =
        let none : flat_map (asked_of q.name) (h ++ deed ∷ []) ≡ flat_map (asked_of q.name) h =
        asked_more q.name h deed
        ∙ ap (λ es. flat_map (asked_of q.name) h ++ es)
        (others_asked q.name p.name t.local.steps (request t.local i) (value_taken ops code s t (request t.local i)) o apart)
        ∙ append-nil (flat_map (asked_of q.name) h) in
        subst (Follows (found code log nodes).nodes loads (execution code log nodes k (walk_of code log q) x.local.steps) x.local) (sym none)
        (follow k q x qt old)

    pub all_follow : AllFollow u (h ++ deed ∷ [])
    all_follow k q x qt at =
        by_which k q x qt at (which s p.name t i q.name x (request t.local i) refl (ap (λ ts. fin.get ts q.name) (sym does.threads) ∙ at))

  -- a drain keeps the local states of threads, and adds no request
  pub drained_follow : (s u : State B) (h : List Deed) (n : Name) (t : Thread B) (b : B) (k c : ℕ) (v : ℤ) → Drains ops code s u n t b → AllFollow s h
      → AllFollow u (h ++ Drained n k c v ∷ [])
  drained_follow s u h n t b k c v drains follow j q x qt at =
      subst (Follows (found code log nodes).nodes loads (execution code log nodes j (walk_of code log q) x.local.steps) x.local)
      (sym (asked_more q.name h (Drained n k c v) ∙ append-nil (flat_map (asked_of q.name) h)))
      (elim (get_put_cases s.threads n (record t { buffer = b }) q.name x (ap (λ ts. fin.get ts q.name) (sym drains.threads) ∙ at)) [
        | inl mine ↦ subst (λ (y : Thread B). FollowsAt h j q y.local) mine.1 (follow j q t qt (ap (fin.get s.threads) mine.0 ∙ drains.there))
        | inr old ↦ follow j q x qt old.1
      ])

  -- only main exists at the start
  pub opening_follows : AllFollow (opening ops code) []
  opening_follows k q x qt at =
      let main = born ops code (length code.functions - 1) [] in
      elim (get_put_cases fin.empty [] main q.name x at) [
        | inl mine ↦
            subst (λ (y : Thread B). FollowsAt [] k q y.local) mine.1
            (start_follows code log nodes lawful is terms k q (length code.functions - 1) loads [] qt (ap (function_of code log) mine.0)
            (ap (λ n. map (value_of (found_before code log nodes k).nodes loads) (arguments_for (found_before code log nodes k).symbolic.threads n)) mine.0))
        | inr old ↦ absurd (none-some x (sym (fin.get-empty (slice_cmp nat_cmp) q.name) ∙ old.1))
      ]
