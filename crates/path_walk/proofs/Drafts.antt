-- The threads of a log, added one after another.
use Rattle.std.proofs.Common.{◌≡◌, ◌∙◌, ◌⊎◌, inl, inr, ℕ, zero, suc, ◌+◌, ◌-◌, ◌≤◌, ◌<◌, Bool, true, false, cond, ◌||◌}
use Rattle.std.proofs.Common.{List, [], ◌∷◌, ◌++◌, length, map, take, drop, get_or, slice_index, sum, ◌==◌}
use Rattle.std.proofs.Common.{IsSome, Option, Some, None, Result, Ok, Err, refl, sym, ap, subst, arith, true≢false, bytes_eq}
use Rattle.std.specs.Prelude.{is_some, option_and_then, slice_get, unwrap_or, IfSome, OnOk, IfErr}
use Rattle.std.specs.List.{list_any}
use Rattle.std.specs.Ordering.{is_lt}
use Rattle.std.specs.Result.{result_err, result_unwrap_or}
use Rattle.std.specs.declared.cmp.Ordering.TheVariants.{Less}
use Rattle.std.proofs.Math.Bool.{or-false}
use Rattle.std.proofs.Math.Seq.{take-length}
use Rattle.std.proofs.lemmas.List.{map-append, length-append, take_more}
use Rattle.std.proofs.lemmas.Bool.{cases_lt, eqb-true, ltb-true}
use Rattle.std.proofs.lemmas.List.Sums.{fold-append}
use Rattle.std.proofs.lemmas.Option.{none-some, slice_get_read}
use Rattle.tc_base.specs.Names.{Name, child, by_name}
use Rattle.run_log.specs.Logs.{Log}
use Rattle.tc_base.specs.Paths.{Path, ThreadPath, path_under}
use Rattle.tc_base.specs.declared.failing.Failing.{Failing}
use Rattle.tc_base.specs.declared.failing.Failing.TheVariants as failing
use Rattle.tc_code.specs.Code.{Code}
use Rattle.run_log.specs.Logs.{rises_from, is_there}
use Rattle.path_walk.specs.Steps.{steps_at, places_of}
use Rattle.path_walk.specs.Fits.{started, ending_of, places_in, child_function, function_of, misfit_of, IsFault, Fits}
use Rattle.path_walk.specs.Paths.{Walk, walk_of, function_in, steps_in, operators_in, is_dead, saturated_count, Paths}
use Rattle.path_walk.specs.helpers.Accounts.{Account, account_by, mapped}
use Rattle.path_walk.specs.helpers.Drafts.{Draft, IsMissing, IsAtLeast, IsAbsentChild, IsFirstAbsent, IsNext, IsDraft, first_fault, least}
use Rattle.path_walk.specs.helpers.Drafts.{added, started_at, paths_by, finished, finished_by}
use Rattle.path_walk.specs.declared.ending.Ending.{Ending}
use Rattle.path_walk.specs.declared.fault.Misfit.{Misfit}
use Rattle.path_walk.specs.declared.fault.Misfit.TheVariants as misfit
use Rattle.path_walk.specs.declared.fault.WalkFault.{WalkFault}
use Rattle.path_walk.specs.declared.fault.WalkFault.TheVariants.{Unfit}
use Rattle.tc_base.proofs.Names.{between, less_true, up_to, child_is_above, later_child, same_true, same_refl}
use Rattle.list_laws.proofs.Lists.{split_at}
use Rattle.run_log.proofs.Rising.{own_path, lesser_is_older, none_under}
use Rattle.tc_base.proofs.Names.{HasParent, parent_of}
use Rattle.path_walk.proofs.Faults.{option_is, there, not_there, function_of_child, walked_there, no_child, missing, nobody}
use Rattle.path_walk.proofs.Faults.{stranger, by_path, fitting}

-- a log has a thread
pub has_thread : (failing : Failing) (count : ℕ) → is_there failing count ≡ true → 0 < count
has_thread (failing.Thread k) count h = let within = ltb-true k count h in omega (arith, within)
has_thread failing.Deadlock count h = ltb-true 0 count h

-- a mapped result comes from a result
pub mapped_ok : {X Y : Type 0} (f : X → Y) (r : Result X Misfit) (y : Y) → mapped f r ≡ Ok y → (x : X) × (r ≡ Ok x) × (f x ≡ y)
mapped_ok f (Ok x) y h = (x, refl, cc)
mapped_ok f (Err e) y h = absurd cc

pub mapped_err : {X Y : Type 0} (f : X → Y) (r : Result X Misfit) (e : Misfit) → mapped f r ≡ Err e → r ≡ Err e
mapped_err f (Ok x) e h = absurd cc
mapped_err f (Err d) e h = cc

-- the last number of a name, and the numbers before it
pub take_last : (xs : List ℕ) → 0 < length xs → xs ≡ take (length xs - 1) xs ++ slice_index xs (length xs - 1) ∷ []
take_last xs some =
    let long : length xs ≡ (length xs - 1) + 1 = omega arith in
    sym (take-length xs) ∙ ap (λ n. take n xs) long ∙ take_more xs (length xs - 1) 0 (omega arith)

pub is_nonempty : (xs : List ℕ) → (length xs == 0) ≡ false → 0 < length xs
is_nonempty [] h = absurd cc
is_nonempty (x ∷ xs) h = omega arith

pub is_empty : (xs : List ℕ) → (length xs == 0) ≡ true → length xs ≡ 0
is_empty xs h = eqb-true (length xs) 0 h

pub take_next : {X : Type 0} (xs : List X) (k : ℕ) (x : X) → k < length xs → x ≡ get_or xs k x → take (suc k) xs ≡ take k xs ++ x ∷ []
take_next xs k x lt e =
    let next : suc k ≡ k + 1 = omega arith in
    ap (λ n. take n xs) next ∙ take_more xs k x lt ∙ ap (λ y. take k xs ++ y ∷ []) (sym e)

-- a name in a list with one more thread is in the list, or is that thread's
under_both : (n : Name) (ts : List ThreadPath) (t : ThreadPath) → IsSome (path_under n (ts ++ t ∷ [])) → IsSome (path_under n ts) ⊎ (n ≡ t.name)
under_both n [] t h = by (bytes_eq n t.name) refl h
  where
    by : (b : Bool) → bytes_eq n t.name ≡ b → IsSome (cond b (Some t.path) None) → IsSome (path_under n []) ⊎ (n ≡ t.name)
    by true e h = inr (same_true n t.name e)
    by false e h = inl h
under_both n (o ∷ ts) t h = by (bytes_eq n o.name) (λ g. under_both n ts t g) h
  where
    by : (b : Bool) → (IsSome (path_under n (ts ++ t ∷ [])) → IsSome (path_under n ts) ⊎ (n ≡ t.name))
        → IsSome (cond b (Some o.path) (path_under n (ts ++ t ∷ []))) → IsSome (cond b (Some o.path) (path_under n ts)) ⊎ (n ≡ t.name)
    by true rest h = inl refl
    by false rest h = rest h

-- a name in a list is in a longer list
under_more : (n : Name) (ts us : List ThreadPath) → IsSome (path_under n ts) → IsSome (path_under n (ts ++ us))
under_more n [] us h = absurd (true≢false (sym h))
under_more n (o ∷ ts) us h = by (bytes_eq n o.name) (λ g. under_more n ts us g) h
  where
    by : (b : Bool) → (IsSome (path_under n ts) → IsSome (path_under n (ts ++ us))) → IsSome (cond b (Some o.path) (path_under n ts))
        → IsSome (cond b (Some o.path) (path_under n (ts ++ us)))
    by true rest h = refl
    by false rest h = rest h

under_last : (ts : List ThreadPath) (t : ThreadPath) → IsSome (path_under t.name (ts ++ t ∷ []))
under_last [] t = subst (λ b. IsSome (cond b (Some t.path) None)) (sym (same_refl t.name)) refl
under_last (o ∷ ts) t = by (bytes_eq t.name o.name) (under_last ts t)
  where
    by : (b : Bool) → IsSome (path_under t.name (ts ++ t ∷ [])) → IsSome (cond b (Some o.path) (path_under t.name (ts ++ t ∷ [])))
    by true rest = refl
    by false rest = rest

-- each thread of a list is found under its name
pub under_own : (ts : List ThreadPath) (i : ℕ) (t : ThreadPath) → slice_get ts i ≡ Some t → IsSome (path_under t.name ts)
under_own [] i t e = absurd (none-some t e)
under_own (o ∷ ts) zero t e =
    let same : o ≡ t = cc in
    subst (λ b. IsSome (cond b (Some o.path) (path_under t.name ts))) (sym (ap (λ (x : ThreadPath). bytes_eq t.name x.name) same ∙ same_refl t.name)) refl
under_own (o ∷ ts) (suc i) t e = by (bytes_eq t.name o.name) (under_own ts i t e)
  where
    by : (b : Bool) → IsSome (path_under t.name ts) → IsSome (cond b (Some o.path) (path_under t.name ts))
    by true rest = refl
    by false rest = rest

get_within : {X : Type 0} (xs : List X) (j : ℕ) → j < length xs → IsSome (slice_get xs j)
get_within [] j lt = absurd (omega arith)
get_within (x ∷ xs) zero lt = refl
get_within (x ∷ xs) (suc j) lt = get_within xs j (omega arith)

within_get : {X : Type 0} (xs : List X) (j : ℕ) → IsSome (slice_get xs j) → j < length xs
within_get [] j h = absurd (true≢false (sym h))
within_get (x ∷ xs) zero h = omega arith
within_get (x ∷ xs) (suc j) h = let rest = within_get xs j h in omega arith

-- the element of a mapped list
map_get : {X Y : Type 0} (f : X → Y) (xs : List X) (i : ℕ) (y : Y) → slice_get (map f xs) i ≡ Some y → (x : X) × (slice_get xs i ≡ Some x) × (f x ≡ y)
map_get f [] i y e = absurd (none-some y e)
map_get f (x ∷ xs) zero y e = (x, refl, cc)
map_get f (x ∷ xs) (suc i) y e = map_get f xs i y e

get_map : {X Y : Type 0} (f : X → Y) (xs : List X) (i : ℕ) (x : X) → slice_get xs i ≡ Some x → slice_get (map f xs) i ≡ Some (f x)
get_map f [] i x e = absurd (none-some x e)
get_map f (y ∷ xs) zero x e = let same : y ≡ x = cc in ap (λ z. Some (f z)) same
get_map f (y ∷ xs) (suc i) x e = get_map f xs i x e

-- The lesser of two names.

least_left : (a b : Option Name) (n : Name) → IsAtLeast a n → IsAtLeast (least a b) n
least_left None b n h = absurd h
least_left (Some x) None n h = h
least_left (Some x) (Some y) n h = by (is_lt (by_name y x)) refl
  where
    not : (c : Bool) → is_lt (by_name n y) ≡ c → is_lt (by_name y x) ≡ true → c ≡ false
    not false e less = refl
    not true e less =
        absurd (true≢false (sym (ap is_lt (between n y x (less_true _ e) (less_true _ less))) ∙ h))

    by : (c : Bool) → is_lt (by_name y x) ≡ c → IsAtLeast (cond c (Some y) (Some x)) n
    by true e = not (is_lt (by_name n y)) refl e
    by false e = h

least_right : (a b : Option Name) (n : Name) → IsAtLeast b n → IsAtLeast (least a b) n
least_right None b n h = h
least_right (Some x) None n h = absurd h
least_right (Some x) (Some y) n h = by (is_lt (by_name y x)) refl
  where
    not : (c : Bool) → is_lt (by_name n x) ≡ c → is_lt (by_name y x) ≡ false → c ≡ false
    not false e more = refl
    not true e more = absurd (true≢false (sym (ap is_lt (up_to n x y (less_true _ e) more)) ∙ h))

    by : (c : Bool) → is_lt (by_name y x) ≡ c → IsAtLeast (cond c (Some y) (Some x)) n
    by true e = h
    by false e = not (is_lt (by_name n x)) refl e

least_is : (P : Name → Type 0) (a b : Option Name) → IfSome a P → IfSome b P → IfSome (least a b) P
least_is P None b p q = q
least_is P (Some x) None p q = p
least_is P (Some x) (Some y) p q = by (is_lt (by_name y x))
  where
    by : (c : Bool) → IfSome (cond c (Some y) (Some x)) P
    by true = q
    by false = p

if_some : {X : Type 0} {P Q : X → Type 0} (o : Option X) → ((x : X) → P x → Q x) → IfSome o P → IfSome o Q
if_some None f h = h
if_some (Some x) f h = f x h

sum_push : (g : ThreadPath → ℕ) (ts : List ThreadPath) (t : ThreadPath) → sum (map g (ts ++ t ∷ [])) ≡ sum (map g ts) + g t
sum_push g ts t = ap sum (map-append g ts (t ∷ [])) ∙ fold-append ◌+◌ 0 (map g ts) (g t ∷ [])

any_push : (p : ThreadPath → Bool) (ts : List ThreadPath) (t : ThreadPath) → list_any p (ts ++ t ∷ []) ≡ (list_any p ts || p t)
any_push p [] t = or-false (p t)
any_push p (o ∷ ts) t = by (p o) (any_push p ts t)
  where
    by : (b : Bool) → list_any p (ts ++ t ∷ []) ≡ (list_any p ts || p t) → (b || list_any p (ts ++ t ∷ [])) ≡ ((b || list_any p ts) || p t)
    by true rest = refl
    by false rest = rest

counted_sum : (a b : ℕ) → saturated_count (saturated_count a + saturated_count b) ≡ saturated_count (a + b)
counted_sum a b = omega arith

-- the first child that isn't in the log
pub first_found : (log : Log) (parent : Name) (k count : ℕ) (n : Name) → k < count → n ≡ child parent (k + 1) → is_some (path_under n log.threads) ≡ false
    → ((j : ℕ) → j < k → IsSome (path_under (child parent (j + 1)) log.threads)) → IsFirstAbsent log parent count (Some n)
first_found log parent k count n within name absent before = record {
  absent = record { number = k; within = within; name = name; absent = none_is (path_under n log.threads) absent };
  first = λ j lt none. by j none (cases_lt j k);
}
  where
    none_is : {X : Type 0} (o : Option X) → is_some o ≡ false → o ≡ None
    none_is None h = refl
    none_is (Some x) h = absurd (true≢false h)

    by : (j : ℕ) → path_under (child parent (j + 1)) log.threads ≡ None → (j < k) ⊎ (k ≤ j) → IsAtLeast (Some n) (child parent (j + 1))
    by j none (inl lt) = absurd (not_there _ none (before j lt))
    by j none (inr le) = subst (λ m. is_lt (by_name (child parent (j + 1)) m) ≡ false) (sym name) (later_child parent (j + 1) (k + 1) (omega arith))

module _ (code : Code) (log : Log) where
  -- a child missing from some threads is missing from others that have its parent
  missing_among : (ts us : List ThreadPath) (n : Name) (is : IsMissing code log ts n) → IsSome (path_under is.parent us) → IsMissing code log us n
  missing_among ts us n is within = record {
    parent = is.parent;
    number = is.number;
    name = is.name;
    within = within;
    created = is.created;
    absent = is.absent;
  }

  -- a name that isn't missing has no misfit, if these threads have the paths of all names up to it
  clear : (ts : List ThreadPath) → ((n : Name) → IsSome (path_under n ts) → misfit_of code log n ≡ None) → IsSome (path_under [] log.threads)
      → (r : Name) → ((p : Name) → (p ≡ r) ⊎ (by_name p r ≡ Less) → IsSome (path_under p log.threads) → IsSome (path_under p ts))
      → (IsMissing code log ts r → ⊥) → misfit_of code log r ≡ None
  clear ts fit main r covers unmissed =
      elim (option_is (path_under r log.threads)) [
        | inr is ↦ fit r (covers r (inl refl) (there _ is.0 is.1))
        | inl absent ↦ elim (option_is (function_of code log r)) [
          | inl none ↦ nobody code log r none absent
          | inr f ↦ absurd (unmissed (by_parent f.0 f.1 absent (parent_of r)))
        ]
      ]
    where
      parent_there : (p : Name) (k f : ℕ) → function_of code log (child p k) ≡ Some f → IsSome (path_under p log.threads)
      parent_there p k f e =
          elim (option_is (path_under p log.threads)) [
            | inr is ↦ there _ is.0 is.1
            | inl absent ↦ absurd (none-some f (sym (no_child code log p k absent) ∙ e))
          ]

      by_parent : (f : ℕ) → function_of code log r ≡ Some f → path_under r log.threads ≡ None → (r ≡ []) ⊎ HasParent r → IsMissing code log ts r
      by_parent f e absent (inl is_main) =
          absurd (not_there (path_under r log.threads) absent (subst (λ n. IsSome (path_under n log.threads)) (sym is_main) main))
      by_parent f e absent (inr h) = record {
        parent = h.parent;
        number = h.number;
        name = h.name;
        within = covers h.parent (inr (subst (λ n. by_name h.parent n ≡ Less) (sym h.name) (child_is_above h.parent h.number)))
            (parent_there h.parent h.number f (ap (function_of code log) (sym h.name) ∙ e));
        created = there _ f e;
        absent = absent;
      }

  missing_fault : (ts : List ThreadPath) (q : Name) → IsMissing code log ts q → misfit_of code log q ≡ Some misfit.Missing
  missing_fault ts q is =
      elim (option_is (function_of code log q)) [
        | inl none ↦ absurd (not_there _ none is.created)
        | inr f ↦ missing code log q f.0 f.1 is.absent
      ]

  -- the first fault, if only a missing child can be at fault below a name
  first_by : (ts : List ThreadPath) (n : Name) (m : Misfit) → misfit_of code log n ≡ Some m
      → ((r : Name) → by_name r n ≡ Less → (IsMissing code log ts r → ⊥) → misfit_of code log r ≡ None)
      → (o : Option Name) → IfSome o (IsMissing code log ts) → ((r : Name) → IsMissing code log ts r → IsAtLeast o r)
      → IsFault code log (first_fault o n m)
  first_by ts n m at clears None missing least =
      record { there = at; least = λ r less. clears r (less_true _ less) (λ is. least r is) }
  first_by ts n m at clears (Some q) missing least = by (is_lt (by_name q n)) refl
    where
      by : (b : Bool) → is_lt (by_name q n) ≡ b → IsFault code log (cond b (Unfit q misfit.Missing) (Unfit n m))
      by true e = record {
        there = missing_fault ts q missing;
        least = λ r less. clears r (between r q n (less_true _ less) (less_true _ e)) (λ is. true≢false (sym less ∙ least r is));
      }
      by false e = record {
        there = at;
        least = λ r less. clears r (less_true _ less) (λ is. true≢false (sym (ap is_lt (up_to r n q (less_true _ less) e)) ∙ least r is));
      }

  module _ (d : Draft) (t : ThreadPath) (draft : IsDraft code log d) (next : IsNext log (length d.threads) t) where
    abbrev done : List ThreadPath
    done = take (length d.threads) log.threads

    abbrev later : List ThreadPath
    later = drop (suc (length d.threads)) log.threads

    split : log.threads ≡ done ++ t ∷ later
    split = split_at log.threads (length d.threads) t (slice_get_read log.threads (length log.threads) (length d.threads) t refl next.within next.there)

    rising : rises_from None (done ++ t ∷ later) ≡ true
    rising = subst (λ ts. rises_from None ts ≡ true) split draft.rises

    -- the thread's path is under its name
    pub next_path : path_under t.name log.threads ≡ Some t.path
    next_path = ap (path_under t.name) split ∙ own_path t later None done rising

    -- the threads read so far have the paths of all lesser names
    older_path : (p : Name) → by_name p t.name ≡ Less → path_under p log.threads ≡ path_under p done
    older_path p less = ap (path_under p) split ∙ lesser_is_older t later p None done rising less

    clears : (r : Name) → by_name r t.name ≡ Less → (IsMissing code log done r → ⊥) → misfit_of code log r ≡ None
    clears r less unmissed = clear done draft.fit draft.main r covers unmissed
      where
        below : (p : Name) → (p ≡ r) ⊎ (by_name p r ≡ Less) → by_name p t.name ≡ Less
        below p (inl e) = subst (λ q. by_name q t.name ≡ Less) (sym e) less
        below p (inr e) = between p r t.name e less

        covers : (p : Name) → (p ≡ r) ⊎ (by_name p r ≡ Less) → IsSome (path_under p log.threads) → IsSome (path_under p done)
        covers p at h = subst IsSome (older_path p (below p at)) h

    -- a fault of the thread, or of a lesser missing child, is the first fault
    pub first_is : (m : Misfit) → misfit_of code log t.name ≡ Some m → IsFault code log (first_fault d.missing t.name m)
    first_is m at = first_by done t.name m at clears d.missing draft.missing draft.least

    -- the function of a child, if its parent is among the threads read so far
    pub told_child : (p : Name) (i j : ℕ) (w : Walk) → slice_get d.threads i ≡ Some w → bytes_eq p w.name ≡ true
        → started_at d.started i j ≡ function_of code log (child p j)
    told_child p i j w at same = by_walk (map_get (walk_of code log) done i w (ap (λ ws. slice_get ws i) (sym draft.threads) ∙ at))
      where
        by_walk : (x : ThreadPath) × (slice_get done i ≡ Some x) × (walk_of code log x ≡ w) → started_at d.started i j ≡ function_of code log (child p j)
        by_walk found =
            let x = found.0 in
            let name : p ≡ x.name = same_true p w.name same ∙ ap (λ (v : Walk). v.name) (sym found.2) in
            let at : slice_get d.started i ≡ Some (started (steps_in code log x)) =
            ap (λ fs. slice_get fs i) draft.started ∙ get_map (λ (y : ThreadPath). started (steps_in code log y)) done i x found.1 in
            let fits = draft.fit x.name (under_own done i x found.1) in
            by_path_of x name at fits
            (subst IsSome (sym (ap (path_under x.name) split)) (under_more x.name done (t ∷ later) (under_own done i x found.1)))
            (option_is (path_under x.name log.threads))
          where
            started_is : (x : ThreadPath) (g : ℕ) → function_of code log x.name ≡ Some g → slice_get d.started i ≡ Some (started (steps_in code log x))
                → (k : ℕ) → started_at d.started i k ≡ child_function code log x.name g k
            started_is x g e at zero = refl
            started_is x g e at (suc k) =
                ap (option_and_then (λ fs. slice_get fs k)) at
                ∙ ap (λ o. slice_get (started (steps_at code (unwrap_or o 0) (places_in code log x.name (unwrap_or o 0)))) k) e

            by_function : (x : ThreadPath) → p ≡ x.name → slice_get d.started i ≡ Some (started (steps_in code log x))
                → (g : ℕ) → function_of code log x.name ≡ Some g → started_at d.started i j ≡ function_of code log (child p j)
            by_function x name at g e =
                started_is x g e at j
                ∙ sym (ap (λ n. function_of code log (child n j)) name ∙ function_of_child code log x.name j
                ∙ ap (option_and_then (λ h. child_function code log x.name h j)) e)

            by_path_of : (x : ThreadPath) → p ≡ x.name → slice_get d.started i ≡ Some (started (steps_in code log x)) → misfit_of code log x.name ≡ None
                → IsSome (path_under x.name log.threads) → (path_under x.name log.threads ≡ None) ⊎ ((q : Path) × (path_under x.name log.threads ≡ Some q))
                → started_at d.started i j ≡ function_of code log (child p j)
            by_path_of x name at fits here (inr is) =
                let f = fitting code log x.name is.0 is.1 fits in
                by_function x name at f.0 f.1
            by_path_of x name at fits here (inl absent) = absurd (not_there _ absent here)

    none_named : (p : Name) (ts : List ThreadPath) → list_any (λ (w : Walk). bytes_eq p w.name) (map (walk_of code log) ts) ≡ false → path_under p ts ≡ None
    none_named p [] h = refl
    none_named p (o ∷ ts) h = by (bytes_eq p o.name) (λ g. none_named p ts g) h
      where
        by : (b : Bool) → (list_any (λ (w : Walk). bytes_eq p w.name) (map (walk_of code log) ts) ≡ false → path_under p ts ≡ None)
            → b || list_any (λ (w : Walk). bytes_eq p w.name) (map (walk_of code log) ts) ≡ false → cond b (Some o.path) (path_under p ts) ≡ None
        by true rest h = absurd (true≢false h)
        by false rest h = rest h

    -- a child has no function if its parent isn't among the threads read so far
    pub untold_child : (p : Name) (j : ℕ) → t.name ≡ child p j → list_any (λ (w : Walk). bytes_eq p w.name) d.threads ≡ false
        → function_of code log (child p j) ≡ None
    untold_child p j name none =
        no_child code log p j
        (older_path p (subst (λ n. by_name p n ≡ Less) (sym name) (child_is_above p j))
        ∙ none_named p done (ap (list_any (λ (w : Walk). bytes_eq p w.name)) (sym draft.threads) ∙ none))

    -- a fault of the thread's path is its fault
    pub path_fault : (f : ℕ) (m : Misfit) → function_of code log t.name ≡ Some f → places_of code f (ending_of log t.name) t.path ≡ Err m
        → misfit_of code log t.name ≡ Some m
    path_fault f m e err = by_path code log t.name f t.path e next_path ∙ ap result_err err

    module _ (f : ℕ) (ps : List ℕ) (e : function_of code log t.name ≡ Some f) (fits : places_of code f (ending_of log t.name) t.path ≡ Ok ps) where
      walked_is : (g : ℕ) → g ≡ f → places_in code log t.name g ≡ ps
      walked_is g same =
          ap (places_in code log t.name) same ∙ ap (λ r. result_unwrap_or r []) (walked_there code log t.name f t.path next_path ∙ fits)

      function_is : function_in code log t ≡ f
      function_is = ap (λ o. unwrap_or o 0) e

      account_is : account_by code (ending_of log t.name) t (function_in code log t) (places_in code log t.name (function_in code log t))
          ≡ account_by code (ending_of log t.name) t f ps
      account_is =
          ap (λ g. account_by code (ending_of log t.name) t g (places_in code log t.name g)) function_is
          ∙ ap (account_by code (ending_of log t.name) t f) (walked_is f refl)

      own_fits : misfit_of code log t.name ≡ None
      own_fits = by_path code log t.name f t.path e next_path ∙ ap result_err fits

      -- its children
      abbrev children : List ℕ
      children = started (steps_at code f ps)

      own_child : (j : ℕ) → function_of code log (child t.name (suc j)) ≡ slice_get children j
      own_child j =
          function_of_child code log t.name (suc j)
          ∙ ap (option_and_then (λ g. child_function code log t.name g (suc j))) e
          ∙ ap (λ xs. slice_get (started (steps_at code f xs)) j) (walked_is f refl)

      no_zeroth : function_of code log (child t.name 0) ≡ None
      no_zeroth = function_of_child code log t.name 0 ∙ ap (option_and_then (λ g. child_function code log t.name g 0)) e

      module _ (found : Option Name) (absent : IsFirstAbsent log t.name (length children) found) where
        abbrev with_it : List ThreadPath
        with_it = done ++ t ∷ []

        missing_more : (n : Name) → IsMissing code log done n → IsMissing code log with_it n
        missing_more n is = missing_among done with_it n is (under_more is.parent done (t ∷ []) is.within)

        missing_own : (n : Name) → IsAbsentChild log t.name (length children) n → IsMissing code log with_it n
        missing_own n is =
            let number : is.number + 1 ≡ suc is.number = omega arith in
            let name : n ≡ child t.name (suc is.number) = is.name ∙ ap (child t.name) number in
            record {
              parent = t.name;
              number = suc is.number;
              name = name;
              within = under_last done t;
              created = subst IsSome (sym (ap (function_of code log) name ∙ own_child is.number)) (get_within children is.number is.within);
              absent = is.absent;
            }

        own_least : (j : ℕ) (n : Name) → n ≡ child t.name j → IsSome (function_of code log n) → path_under n log.threads ≡ None → IsAtLeast found n
        own_least zero n name created none =
            absurd (not_there _ (ap (function_of code log) name ∙ no_zeroth) created)
        own_least (suc j) n name created none =
            let number : suc j ≡ j + 1 = omega arith in
            let is : n ≡ child t.name (j + 1) = name ∙ ap (child t.name) number in
            let within = within_get children j (subst IsSome (ap (function_of code log) name ∙ own_child j) created) in
            subst (IsAtLeast found) (sym is) (absent.first j within (ap (λ m. path_under m log.threads) (sym is) ∙ none))

        least_more : (n : Name) → IsMissing code log with_it n → IsAtLeast (least d.missing found) n
        least_more n is =
            elim (under_both is.parent done t is.within) [
              | inl old ↦ least_left d.missing found n (draft.least n (missing_among with_it done n is old))
              | inr own ↦ least_right d.missing found n
                  (own_least is.number n (is.name ∙ ap (λ p. child p is.number) own) is.created is.absent)
            ]

        fit_more : (n : Name) → IsSome (path_under n with_it) → misfit_of code log n ≡ None
        fit_more n h =
            elim (under_both n done t h) [
              | inl old ↦ draft.fit n old
              | inr own ↦ ap (misfit_of code log) own ∙ own_fits
            ]

        missing_both : IfSome (least d.missing found) (IsMissing code log with_it)
        missing_both =
            least_is (IsMissing code log with_it) d.missing found (if_some d.missing missing_more draft.missing) (if_some found missing_own absent.absent)

        abbrev account : Account
        account = account_by code (ending_of log t.name) t f ps

        longer : length (d.threads ++ account.walk ∷ []) ≡ suc (length d.threads)
        longer = omega (arith, length-append d.threads (account.walk ∷ []))

        with_next : take (length (d.threads ++ account.walk ∷ [])) log.threads ≡ with_it
        with_next = ap (λ n. take n log.threads) longer ∙ take_next log.threads (length d.threads) t next.within next.there

        pushed : {Y : Type 0} (g : ThreadPath → Y) (ys : List Y) (y : Y) → ys ≡ map g done → g t ≡ y → ys ++ y ∷ [] ≡ map g with_it
        pushed g ys y is own = ap (λ zs. zs ++ y ∷ []) is ∙ ap (λ z. map g done ++ z ∷ []) (sym own) ∙ sym (map-append g done (t ∷ []))

        -- the draft with one more thread is a draft
        pub is_added : length account.walk.events ≤ 65536 → IsDraft code log (added d account found)
        is_added few =
            let events : length (walk_of code log t).events ≡ length account.walk.events = ap (λ (c : Account). length c.walk.events) account_is in
            let operators : saturated_count (operators_in code log t) ≡ account.operators = ap (λ (c : Account). c.operators) account_is in
            record {
              rises = draft.rises;
              main = draft.main;
              threads =
                  pushed (walk_of code log) d.threads account.walk draft.threads (ap (λ (c : Account). c.walk) account_is)
                  ∙ ap (map (walk_of code log)) (sym with_next);
              started =
                  pushed (λ (x : ThreadPath). started (steps_in code log x)) d.started account.started draft.started
                  (ap (λ (c : Account). c.started) account_is)
                  ∙ ap (map (λ (x : ThreadPath). started (steps_in code log x))) (sym with_next);
              events =
                  ap (λ n. n + length account.walk.events) draft.events
                  ∙ ap (λ n. sum (map (λ (x : ThreadPath). length (walk_of code log x).events) done) + n) (sym events)
                  ∙ sym (sum_push (λ (x : ThreadPath). length (walk_of code log x).events) done t)
                  ∙ ap (λ ts. sum (map (λ (x : ThreadPath). length (walk_of code log x).events) ts)) (sym with_next);
              few = let before = draft.few in omega (arith, before, few, longer);
              operators =
                  ap (λ n. saturated_count (n + account.operators)) draft.operators
                  ∙ ap (λ n. saturated_count (saturated_count (sum (map (operators_in code log) done)) + n)) (sym operators)
                  ∙ counted_sum (sum (map (operators_in code log) done)) (operators_in code log t)
                  ∙ ap saturated_count (sym (sum_push (operators_in code log) done t))
                  ∙ ap (λ ts. saturated_count (sum (map (operators_in code log) ts))) (sym with_next);
              dead =
                  ap (λ b. b || account.dead) draft.dead
                  ∙ ap (λ b. list_any (is_dead code log) done || b) (sym (ap (λ (c : Account). c.dead) account_is))
                  ∙ sym (any_push (is_dead code log) done t)
                  ∙ ap (list_any (is_dead code log)) (sym with_next);
              fit = λ n h. fit_more n (subst (λ ts. IsSome (path_under n ts)) with_next h);
              missing = subst (λ ts. IfSome (least d.missing found) (IsMissing code log ts)) (sym with_next) missing_both;
              least = λ n is. least_more n (subst (λ ts. IsMissing code log ts n) with_next is);
            }

  -- What following the next thread gives.
  module _ (d : Draft) (t : ThreadPath) (draft : IsDraft code log d) (next : IsNext log (length d.threads) t) (n : Name) (name : n ≡ t.name) where
    own_name : (m : Misfit) (e : WalkFault) → e ≡ first_fault d.missing n m → misfit_of code log t.name ≡ Some m → IsFault code log e
    own_name m e is at =
        subst (IsFault code log) (sym (is ∙ ap (λ q. first_fault d.missing q m) name)) (first_is d t draft next m at)

    pub stranger_fault : (e : WalkFault) → function_of code log n ≡ None → e ≡ first_fault d.missing n misfit.Stranger → IsFault code log e
    stranger_fault e none is =
        own_name misfit.Stranger e is (stranger code log t.name t.path (ap (function_of code log) (sym name) ∙ none) (next_path d t draft next))

    pub unfit_fault : (f : ℕ) (ending : Ending) (m : Misfit) (e : WalkFault) → function_of code log n ≡ Some f → ending ≡ ending_of log n
        → places_of code f ending t.path ≡ Err m → e ≡ first_fault d.missing n m → IsFault code log e
    unfit_fault f ending m e function ends err is =
        own_name m e is (path_fault d t draft next f m (ap (function_of code log) (sym name) ∙ function)
        (ap (λ b. places_of code f b t.path) (ap (ending_of log) (sym name) ∙ sym ends) ∙ err))

    pub follows : (f : ℕ) (ending : Ending) (ps : List ℕ) (c : Account) (found : Option Name) (u : Draft) → function_of code log n ≡ Some f
        → ending ≡ ending_of log n → places_of code f ending t.path ≡ Ok ps → account_by code ending t f ps ≡ c → length c.walk.events ≤ 65536
        → IsFirstAbsent log c.walk.name (length c.started) found → u ≡ added d c found → IsDraft code log u × (length u.threads ≡ length d.threads + 1)
    follows f ending ps c found u function ends fits is few absent now =
        let same : ending ≡ ending_of log t.name = ends ∙ ap (ending_of log) name in
        let account : c ≡ account_by code (ending_of log t.name) t f ps = sym is ∙ ap (λ b. account_by code b t f ps) same in
        let fits' : places_of code f (ending_of log t.name) t.path ≡ Ok ps = ap (λ b. places_of code f b t.path) (sym same) ∙ fits in
        let absent' = subst (λ (x : Account). IsFirstAbsent log x.walk.name (length x.started) found) account absent in
        let few' = subst (λ (x : Account). length x.walk.events ≤ 65536) account few in
        let new = now ∙ ap (λ (x : Account). added d x found) account in (
          subst (IsDraft code log) (sym new) (is_added d t draft next f ps (ap (function_of code log) (sym name) ∙ function) fits' found absent' few'),
          ap (λ (x : Draft). length x.threads) now ∙ length-append d.threads (c.walk ∷ []),
        )

    -- the thread's function, by the index of its parent among the threads read so far
    pub told_at : (p : Name) (i j : ℕ) → IfSome (slice_get d.threads i) (λ w. bytes_eq p w.name ≡ true) → i < length d.threads
        → started_at d.started i j ≡ function_of code log (child p j)
    told_at p i j h within = by (option_is (slice_get d.threads i))
      where
        by : (slice_get d.threads i ≡ None) ⊎ ((w : Walk) × (slice_get d.threads i ≡ Some w)) → started_at d.started i j ≡ function_of code log (child p j)
        by (inl none) = absurd (not_there _ none (get_within d.threads i within))
        by (inr is) = told_child d t draft next p i j is.0 is.1 (subst (λ o. IfSome o (λ (w : Walk). bytes_eq p w.name ≡ true)) is.1 h)

  -- A complete draft.

  module _ (d : Draft) (draft : IsDraft code log d) (all : length d.threads ≡ length log.threads) where
    whole : take (length d.threads) log.threads ≡ log.threads
    whole = ap (λ n. take n log.threads) all ∙ take-length log.threads

    clear_whole : (r : Name) → (IsMissing code log (take (length d.threads) log.threads) r → ⊥) → misfit_of code log r ≡ None
    clear_whole r unmissed =
        clear (take (length d.threads) log.threads) draft.fit draft.main r
        (λ p at h. subst (λ ts. IsSome (path_under p ts)) (sym whole) h) unmissed

    fits_by : (o : Option Name) → ((r : Name) → IsMissing code log (take (length d.threads) log.threads) r → IsAtLeast o r) → (failing : Failing) → (r : Paths)
        → finished_by o d failing ≡ Ok r → Fits code log × (paths_by d failing ≡ r)
    fits_by None least failing r h = ((λ q. clear_whole q (least q)), cc)
    fits_by (Some q) least failing r h = absurd cc

    fault_by : (o : Option Name) → IfSome o (IsMissing code log (take (length d.threads) log.threads))
        → ((r : Name) → IsMissing code log (take (length d.threads) log.threads) r → IsAtLeast o r) → (failing : Failing) (e : WalkFault)
        → finished_by o d failing ≡ Err e → IsFault code log e
    fault_by None missing least failing e h = absurd cc
    fault_by (Some q) missing least failing e h =
        let is : Unfit q misfit.Missing ≡ e = cc in
        subst (IsFault code log) is (record {
          there = missing_fault (take (length d.threads) log.threads) q missing;
          least = λ r less. clear_whole r (λ m. true≢false (sym less ∙ least r m));
        })

    -- the paths of a complete draft are those of the log, which fits
    pub whole_fits : (r : Paths) → finished d log.failing ≡ Ok r → Fits code log
    whole_fits r h = (fits_by d.missing draft.least log.failing r h).0

    pub whole_fault : (e : WalkFault) → finished d log.failing ≡ Err e → IsFault code log e
    whole_fault e h = fault_by d.missing draft.missing draft.least log.failing e h

    pub whole_ok : (r : Result Paths WalkFault) → r ≡ finished d log.failing → OnOk r (Fits code log)
    whole_ok (Ok p) h = whole_fits p (sym h)
    whole_ok (Err e) h = tt

    pub whole_err : (r : Result Paths WalkFault) → r ≡ finished d log.failing → IfErr r (IsFault code log)
    whole_err (Ok p) h = tt
    whole_err (Err e) h = whole_fault e (sym h)

  -- Main.

  -- a log whose first name isn't main's doesn't have main
  no_main : (ts : List ThreadPath) → rises_from None ts ≡ true → (t : ThreadPath) → t ≡ get_or ts 0 t → 0 < length ts → 0 < length t.name
      → path_under [] ts ≡ None
  no_main [] h t e some long = absurd (omega arith)
  no_main (o ∷ ts) h t e some long = by o.name refl (ap (λ (x : ThreadPath). x.name) e)
    where
      by : (n : Name) → o.name ≡ n → t.name ≡ o.name → path_under [] (o ∷ ts) ≡ None
      by [] is same = absurd (omega (arith, ap length (same ∙ is)))
      by (x ∷ n) is same =
          ap (λ m. cond (bytes_eq [] m) (Some o.path) (path_under [] ts)) is
          ∙ none_under o.name [] ts h (ap (λ m. is_lt (by_name m [])) is)

  none_less : (q : Name) → is_lt (by_name q []) ≡ true → ⊥
  none_less [] h = true≢false (sym h)
  none_less (x ∷ q) h = true≢false (sym h)

  pub main_missing : rises_from None log.threads ≡ true → (t : ThreadPath) → t ≡ get_or log.threads 0 t → 0 < length log.threads → 0 < length t.name
      → IsFault code log (Unfit [] misfit.Missing)
  main_missing h t e some long = record {
    there = missing code log [] (length code.functions - 1) refl (no_main log.threads h t e some long);
    least = λ q less. absurd (none_less q less);
  }
