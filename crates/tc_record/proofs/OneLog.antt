-- A state has only one log.
use Rattle.std.proofs.Common.{◌≡◌, ◌∙◌, inl, inr, ℕ, suc, Bool, true, false, List, [], ◌∷◌, map, Option, Some, None, IsSome, refl, ap, sym, subst}
use Rattle.std.proofs.Common.{bytes_eq, true≢false, length, arith}
use Rattle.std.specs.Prelude.{slice_get, option_map, option_and_then, IfSome, ◌||◌}
use Rattle.std.specs.List.{list_any}
use Rattle.std.specs.Ordering.{is_lt}
use Rattle.std.specs.declared.cmp.Ordering.{Ordering}
use Rattle.std.specs.declared.cmp.Ordering.TheVariants.{Less, Equal, Greater}
use Rattle.std.specs.FinMap as fin
use Rattle.std.proofs.lemmas.Bool.{and_parts, cases_order, ltb-true}
use Rattle.std.proofs.lemmas.Option.{none-some, same_Some, slice_get_cases}
use Rattle.tc_base.specs.Names.{Name, by_name}
use Rattle.tc_base.specs.States.{State}
use Rattle.tc_base.specs.Paths.{Path, ThreadPath, path_under, place_in}
use Rattle.tc_base.specs.declared.failing.Failing.{Failing}
use Rattle.tc_base.specs.declared.failing.Failing.TheVariants as failing
use Rattle.run_log.specs.memory_models.declared.model.Model.{Model}
use Rattle.tc_base.proofs.Names.{itself, not_itself, same_name, same_true, turned}
use Rattle.run_log.specs.Logs.{StoredLog, rises_from, is_there}
use Rattle.run_log.proofs.Rising.{lesser_is_older, none_under, not_under, rise, rises_behind, rising, under_first}
use Rattle.tc_machine.specs.run_laws.Alone.{same}
use Rattle.tc_machine.proofs.run_laws.Names.{tells_names}
use Rattle.tc_machine.proofs.run_laws.Basics.{some_is}
use Rattle.tc_record.specs.declared.end.End.TheVariants.{Failed, Deadlock}
use Rattle.tc_record.specs.Ends.{told_end}
use Rattle.tc_record.specs.Logged.{IsLogOf}
use Rattle.tc_record.specs.helpers.Paths.{named_path, HasThreads}
use Rattle.tc_record.proofs.Paths.{log_there, paths_rise, paths_same}

-- Paths with rising names are determined by the path under each name.

-- two lists with rising names and the same path under each name
module _ (x y : ThreadPath) (xs ys : List ThreadPath) (p : rises_from None (x ∷ xs) ≡ true) (q : rises_from None (y ∷ ys) ≡ true)
    (each : (n : Name) → path_under n (x ∷ xs) ≡ path_under n (y ∷ ys)) where
  -- a lesser first name is under no other
  none_less : by_name x.name y.name ≡ Less → ⊥
  none_less e = none-some x.path (sym (lesser_is_older y ys x.name None [] q e) ∙ sym (each x.name) ∙ under_first x xs)

  none_greater : by_name y.name x.name ≡ Less → ⊥
  none_greater e = none-some y.path (sym (lesser_is_older x xs y.name None [] p e) ∙ each y.name ∙ under_first y ys)

  module _ (name : x.name ≡ y.name) where
    first_same : x ≡ y
    first_same =
        let path = same_Some x.path y.path (sym (under_first x xs) ∙ each x.name ∙ ap (λ n. path_under n (y ∷ ys)) name ∙ under_first y ys) in
        ap (λ (n : Name). let t : ThreadPath = record { name = n; path = x.path } in t) name
        ∙ ap (λ (r : Path). let t : ThreadPath = record { name = y.name; path = r } in t) path

    absent : (t : ThreadPath) (ts : List ThreadPath) (n : Name) → rises_from None (t ∷ ts) ≡ true → n ≡ t.name → path_under n ts ≡ None
    absent t ts n h is = none_under t.name n ts (rising None t ts h).1 (ap (λ m. is_lt (by_name t.name m)) is ∙ ap is_lt (itself t.name))

    rest_same : (n : Name) (b : Bool) → bytes_eq n x.name ≡ b → path_under n xs ≡ path_under n ys
    rest_same n true e =
        let is = same_true n x.name e in
        absent x xs n p is ∙ sym (absent y ys n q (is ∙ name))
    rest_same n false e = sym (not_under n x xs e) ∙ each n ∙ not_under n y ys (subst (λ m. bytes_eq n m ≡ false) name e)

  by_first : (((n : Name) → path_under n xs ≡ path_under n ys) → xs ≡ ys) → (o : Ordering) → by_name x.name y.name ≡ o → x ∷ xs ≡ y ∷ ys
  by_first rest Less e = absurd (none_less e)
  by_first rest Greater e = absurd (none_greater (turned x.name y.name e))
  by_first rest Equal e =
      let name = same_name x.name y.name e in
      ap (λ t. t ∷ xs) (first_same name) ∙ ap (λ ts. y ∷ ts) (rest (λ n. rest_same name n (bytes_eq n x.name) refl))

same_threads : (xs ys : List ThreadPath) → rises_from None xs ≡ true → rises_from None ys ≡ true → ((n : Name) → path_under n xs ≡ path_under n ys)
    → xs ≡ ys
same_threads [] [] p q each = refl
same_threads [] (y ∷ ys) p q each = absurd (none-some y.path (each y.name ∙ under_first y ys))
same_threads (x ∷ xs) [] p q each = absurd (none-some x.path (sym (each x.name) ∙ under_first x xs))
same_threads (x ∷ xs) (y ∷ ys) p q each =
    by_first x y xs ys p q each (same_threads xs ys (rises_behind None 1 (x ∷ xs) p) (rises_behind None 1 (y ∷ ys) q)) (by_name x.name y.name) refl

-- Among the threads of a log one has failed, or none has.
module _ (threads : List ThreadPath) where
  -- the name of the thread that has failed
  abbrev named : Failing → Option Name
  named f = option_and_then (λ k. option_map (λ (t : ThreadPath). t.name) (slice_get threads k)) (place_in f)

  there : (k : ℕ) → is_there (failing.Thread k) (length threads) ≡ true → (t : ThreadPath) × (slice_get threads k ≡ Some t)
  there k is = elim (slice_get_cases threads k).1 [
    | inl found ↦ (found.0, found.2)
    | inr past ↦ let lt = ltb-true k (length threads) is in absurd (omega (arith, past.0))
  ]

  -- the log of a failure names a thread that failed, and that of a deadlock names none
  failure_by : (f : Failing) → IsSome (named f) → Failed ≡ told_end f
  failure_by (failing.Thread k) some = refl
  failure_by failing.Deadlock some = absurd (true≢false (sym some))

  deadlock_by : (f : Failing) → is_there f (length threads) ≡ true → named f ≡ None → Deadlock ≡ told_end f
  deadlock_by failing.Deadlock is none = refl
  deadlock_by (failing.Thread k) is none =
      let t = there k is in
      absurd (none-some t.0.name (sym none ∙ ap (option_map (λ (u : ThreadPath). u.name)) t.1))

  module _ (rises : rises_from None threads ≡ true) where
    -- a name has only one place
    one_place : (j k : ℕ) (a b : ThreadPath) → slice_get threads j ≡ Some a → slice_get threads k ≡ Some b → a.name ≡ b.name → j ≡ k
    one_place j k a b at bt same =
        elim (cases_order j k) [
          | inl e ↦ e
          | inr apart ↦
              elim apart [
                | inl lt ↦ absurd (not_itself b.name (subst (λ n. by_name n b.name ≡ Less) same (rise None threads j k a b rises lt at bt)))
                | inr gt ↦ absurd (not_itself b.name (subst (λ n. by_name b.name n ≡ Less) same (rise None threads k j b a rises gt bt at)))
              ]
        ]

    one_failing : (f g : Failing) → is_there f (length threads) ≡ true → is_there g (length threads) ≡ true → named f ≡ named g → f ≡ g
    one_failing (failing.Thread j) (failing.Thread k) p q e =
        let a = there j p in
        let b = there k q in
        let own = option_map (λ (u : ThreadPath). u.name) in
        ap (λ i. failing.Thread i) (one_place j k a.0 b.0 a.1 b.1 (same_Some a.0.name b.0.name (sym (ap own a.1) ∙ e ∙ ap own b.1)))
    one_failing (failing.Thread j) failing.Deadlock p q e =
        let a = there j p in
        absurd (none-some a.0.name (sym e ∙ ap (option_map (λ (u : ThreadPath). u.name)) a.1))
    one_failing failing.Deadlock (failing.Thread k) p q e =
        let b = there k q in
        absurd (none-some b.0.name (e ∙ ap (option_map (λ (u : ThreadPath). u.name)) b.1))
    one_failing failing.Deadlock failing.Deadlock p q e = refl

module _ {B : Type 0} (model : Model) (s : State B) where
  module _ (x : StoredLog) (is : IsLogOf model s x) where
    parts : (rises_from None x.log.threads ≡ true) × (is_there x.log.failing (length x.log.threads) ≡ true)
    parts = and_parts (rises_from None x.log.threads) (is_there x.log.failing (length x.log.threads)) is.is_log

    -- its threads are those of the state, in the order of their names
    pub threads_are : x.log.threads ≡ map (named_path s) (fin.keys s.threads)
    threads_are = same_threads x.log.threads _ parts.0 (paths_rise s) (λ n. sym (is.paths n) ∙ paths_same s n)

    -- the log is of a failure if a thread of the state has failed, and otherwise of a deadlock
    pub tells_failure : IsSome s.failed → Failed ≡ told_end x.log.failing
    tells_failure some = failure_by x.log.threads x.log.failing (subst IsSome (sym is.failing) some)

    pub tells_deadlock : s.failed ≡ None → Deadlock ≡ told_end x.log.failing
    tells_deadlock none = deadlock_by x.log.threads x.log.failing parts.1 (is.failing ∙ none)

  pub one_log : (x y : StoredLog) → IsLogOf model s x → IsLogOf model s y → x ≡ y
  one_log x y a b =
      let threads = threads_are x a ∙ sym (threads_are y b) in
      let failing =
      one_failing y.log.threads (parts y b).0 x.log.failing y.log.failing
      (subst (λ (ts : List ThreadPath). is_there x.log.failing (length ts) ≡ true) threads (parts x a).1) (parts y b).1
      (ap (λ ts. named ts x.log.failing) (sym threads) ∙ a.failing ∙ sym b.failing) in
      ap (λ (d : Option (List ℕ)). let r : StoredLog = record { digest = d; log = x.log } in r) (a.digest ∙ sym b.digest)
      ∙ ap (λ (m : Model). let r : StoredLog = record { digest = y.digest; log = record { model = m; failing = x.log.failing; threads = x.log.threads } } in r)
      (a.model ∙ sym b.model)
      ∙ ap (λ (f : Failing). let r : StoredLog = record { digest = y.digest; log = record { model = y.log.model; failing = f; threads = x.log.threads } } in r)
      failing
      ∙ ap (λ (ts : List ThreadPath). let r : StoredLog = record { digest = y.digest; log = record { model = y.log.model; failing = y.log.failing; threads = ts } } in r)
      threads

  -- A state has a log if it has threads and the failed one, if any, is one of them.

  place_of : (n : Name) (names : List Name) → list_any (same n) names ≡ true → (k : ℕ) × (slice_get names k ≡ Some n)
  place_of n [] h = absurd (true≢false (sym h))
  place_of n (m ∷ names) h =
      elim (tells_names n m) [
        | inl e ↦ (0, ap (λ k. Some k) (sym e.1))
        | inr e ↦
            let later = place_of n names (sym (ap (λ b. b || list_any (same n) names) e.0) ∙ h) in
            (suc later.0, later.1)
      ]

  abbrev ending_with : Failing → StoredLog
  ending_with f = record { digest = None; log = record { model = model; failing = f; threads = map (named_path s) (fin.keys s.threads) } }

  pub some_log : HasThreads s → (x : StoredLog) × IsLogOf model s x
  some_log has = by s.failed refl
    where
      by : (o : Option Name) → s.failed ≡ o → (x : StoredLog) × IsLogOf model s x
      by None e = (ending_with failing.Deadlock, log_there s model _ model failing.Deadlock _ refl refl has e refl)
      by (Some n) e =
          let here : IsSome (fin.get s.threads n) = subst (λ o. IfSome o (λ m. IsSome (fin.get s.threads m))) e has.failed in
          let k = place_of n (fin.keys s.threads) (sym (fin.contains_key-keys s.threads n) ∙ here) in
          (ending_with (failing.Thread k.0), log_there s model _ model (failing.Thread k.0) _ refl refl has (some_is s.failed n e, k.1 ∙ sym e) refl)
