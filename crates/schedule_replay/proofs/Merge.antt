-- The threads of a log and of a run, merged in the order of their names.
use Rattle.std.proofs.Common.{◌≡◌, ◌<◌, ◌≤◌, ◌+◌, ℕ, zero, suc, Bool, true, false, cond, ltb, T, List, [], ◌∷◌, length, map, drop, get_or, Option, Some, None, refl, sym, ap, ◌∙◌, subst, arith, inl, inr, bytes_eq}
use Rattle.std.specs.Prelude.{option_map}
use Rattle.std.specs.Cmp.{booleans_Decides}
use Rattle.std.specs.Cmp.Lexicographic.{pointwise_decides}
use Rattle.std.specs.FinMap as fin
use Rattle.std.specs.FinMap.{find, is_sorted}
use Rattle.std.specs.FinMap.Entries.{below_all}
use Rattle.std.specs.Ordering.{is_eq, is_lt, ordering_reverse}
use Rattle.std.specs.declared.cmp.Ordering.{Ordering}
use Rattle.std.specs.declared.cmp.Ordering.TheVariants.{Less, Equal, Greater}
use Rattle.std.proofs.lemmas.Bool.{and_parts, cases_Bool, eqb-true, eq-eqb}
use Rattle.std.proofs.lemmas.Cmp.{nat_list_cmp_total}
use Rattle.std.proofs.lemmas.List.{drop_more, drop_all, length-map}
use Rattle.std.proofs.lemmas.Option.{none-some, same_Some}
use Rattle.std.proofs.lemmas.Map.Text.{is_eq-slice_cmp}
use Rattle.store_buffers.proofs.list_laws.Bools.{first_T, second_T}
use Rattle.tc_base.specs.Names.{Name, by_name}
use Rattle.tc_base.proofs.Names.{same_name, itself, between, turned, less_true, equal_of}
use Rattle.run_log.proofs.Rising.{rises_behind, none_below, under_first}
use Rattle.tc_base.specs.States.{Thread, State}
use Rattle.tc_base.specs.Paths.{Path, ThreadPath, path_under}
use Rattle.run_log.specs.Logs.{Log}
use Rattle.tc_code.specs.Run.{path_of, path_in}
use Rattle.run_log.specs.Logs.{is_above, rises_from, is_there, is_log}
use Rattle.schedule_replay.specs.Verdicts.{GoesAsLogged, IsFirstToDiffer}
use Rattle.schedule_replay.specs.helpers.Judged.{IsFirstOther, is_path, by_order, other_at}

less_T : (o : Ordering) → T (is_lt o) → o ≡ Less
less_T Less h = refl
less_T Equal h = absurd h
less_T Greater h = absurd h

-- A test decides whether two paths are the same.

same_path : (q p : Path) → q.outcomes ≡ p.outcomes → q.steps ≡ p.steps → q ≡ p
same_path q p outcomes steps = λ i. record { outcomes = outcomes i; steps = steps i }

pub path_is : (o : Option Path) (p : Path) → is_path o p ≡ true → o ≡ Some p
path_is None p h = absurd cc
path_is (Some q) p h =
    let parts = and_parts _ _ h in
    let steps = eqb-true q.steps p.steps parts.0 in
    let outcomes = (pointwise_decides booleans_Decides q.outcomes p.outcomes).0 parts.1 in
    ap (λ (r : Path). Some r) (same_path q p outcomes steps)

path_not : (o : Option Path) (p : Path) → is_path o p ≡ false → o ≡ Some p → ⊥
path_not None p h e = cc
path_not (Some q) p h e =
    let steps : q.steps ≡ p.steps = ap (λ (x : Path). x.steps) (same_Some q p e) in
    let outcomes : q.outcomes ≡ p.outcomes = ap (λ (x : Path). x.outcomes) (same_Some q p e) in
    let first = eq-eqb q.steps p.steps steps in
    let second = (pointwise_decides booleans_Decides q.outcomes p.outcomes).1 outcomes in
    let both : is_path (Some q) p ≡ true = rw (first, second) refl in
    let no : true ≡ false = sym both ∙ h in
    cc

-- Logged threads with rising names.

abbrev rise : List ThreadPath → Bool
rise ts = rises_from None ts

not_under : (m : Name) (t : ThreadPath) (ts : List ThreadPath) → by_name m t.name ≡ Less → path_under m (t ∷ ts) ≡ path_under m ts
not_under m t ts e = ap (λ (b : Bool). cond b (Some t.path) (path_under m ts)) (sym (is_eq-slice_cmp m t.name) ∙ ap is_eq e)

under_below : (m : Name) (t : ThreadPath) (ts : List ThreadPath) → rise (t ∷ ts) ≡ true → by_name m t.name ≡ Less → path_under m (t ∷ ts) ≡ None
under_below m t ts h e = not_under m t ts e ∙ none_below t.name m ts h e

under_rest : (t : ThreadPath) (ts : List ThreadPath) → rise (t ∷ ts) ≡ true → path_under t.name ts ≡ None
under_rest t [] h = refl
under_rest t (u ∷ ts) h =
    let parts = and_parts (is_above (Some t.name) u.name) (rises_from (Some u.name) ts) h in
    under_below t.name u ts parts.1 (less_true _ parts.0)

-- threads by name
abbrev pub Entries : Type 0 → Type 0
Entries B = List (Name × Thread B)

equal_name : (m n : Name) → is_eq (by_name m n) ≡ true → m ≡ n
equal_name m n h = same_name m n (equal_of (by_name m n) h)

module _ {B : Type 0} where
  -- the path under a name among entries
  abbrev pub look : Entries B → Name → Option Path
  look es n = option_map path_of (find by_name n es)

  sorted_drop : (i : ℕ) (es : Entries B) → T (is_sorted by_name es) → T (is_sorted by_name (drop i es))
  sorted_drop zero es h = h
  sorted_drop (suc i) [] h = tt
  sorted_drop (suc i) (e ∷ es) h = sorted_drop i es (second_T _ _ h)

  not_there : (m k : Name) (v : Thread B) (es : Entries B) → by_name m k ≡ Less → find by_name m ((k, v) ∷ es) ≡ find by_name m es
  not_there m k v es e = ap (λ (o : Ordering). cond (is_eq o) (Some v) (find by_name m es)) e

  none_there : (last m : Name) (es : Entries B) → T (below_all by_name last es) → by_name m last ≡ Less → find by_name m es ≡ None
  none_there last m [] h e = refl
  none_there last m (p ∷ es) h e =
      not_there m p.0 p.1 es (between m last p.0 e (less_T _ (first_T _ _ h))) ∙ none_there last m es (second_T _ _ h) e

  there_below : (m : Name) (p : Name × Thread B) (es : Entries B) → T (is_sorted by_name (p ∷ es)) → by_name m p.0 ≡ Less → look (p ∷ es) m ≡ None
  there_below m p es h e = ap (option_map path_of) (not_there m p.0 p.1 es e ∙ none_there p.0 m es (first_T _ _ h) e)

  there_rest : (p : Name × Thread B) (es : Entries B) → T (is_sorted by_name (p ∷ es)) → look es p.0 ≡ None
  there_rest p [] h = refl
  there_rest p (q ∷ es) h = there_below p.0 q es (second_T _ _ h) (less_T _ (first_T _ _ (first_T _ _ h)))

  -- the least name with different paths
  pub record IsFirst (es : Entries B) (ts : List ThreadPath) (n : Name) : Type 0 where
    pub differs : ¬ (look es n ≡ path_under n ts)
    pub least : (m : Name) → by_name m n ≡ Less → look es m ≡ path_under m ts

  abbrev pub FirstOf : Entries B → List ThreadPath → Option Name → Type 0
  FirstOf es ts None = (n : Name) → look es n ≡ path_under n ts
  FirstOf es ts (Some n) = IsFirst es ts n

  pub first_of_state : (s : State B) (log : Log) (o : Option Name) → FirstOf (fin.entries s.threads) log.threads o → IsFirstOther s log o
  first_of_state s log None f = λ n. ap (option_map path_of) (fin.get-entries s.threads n) ∙ f n
  first_of_state s log (Some n) f = record {
    differs = λ goes. f.differs (sym (ap (option_map path_of) (fin.get-entries s.threads n)) ∙ goes);
    least = λ m less. ap (option_map path_of) (fin.get-entries s.threads m) ∙ f.least m less;
  }

  -- Two first entries with the same name.

  at_head : (m : Name) (p : Name × Thread B) (es : Entries B) (t : ThreadPath) (ts : List ThreadPath) → t.name ≡ p.0 → is_eq (by_name m p.0) ≡ true
      → (look (p ∷ es) m ≡ Some (path_of p.1)) × (path_under m (t ∷ ts) ≡ Some t.path)
  at_head m p es t ts e h =
      let under : bytes_eq m t.name ≡ true = ap (bytes_eq m) e ∙ (sym (is_eq-slice_cmp m p.0) ∙ h) in (
        ap (λ (b : Bool). option_map path_of (cond b (Some p.1) (find by_name m es))) h,
        ap (λ (b : Bool). cond b (Some t.path) (path_under m ts)) under,
      )

  past_head : (m : Name) (p : Name × Thread B) (es : Entries B) (t : ThreadPath) (ts : List ThreadPath) → t.name ≡ p.0 → is_eq (by_name m p.0) ≡ false
      → (look (p ∷ es) m ≡ look es m) × (path_under m (t ∷ ts) ≡ path_under m ts)
  past_head m p es t ts e h =
      let under : bytes_eq m t.name ≡ false = ap (bytes_eq m) e ∙ (sym (is_eq-slice_cmp m p.0) ∙ h) in (
        ap (λ (b : Bool). option_map path_of (cond b (Some p.1) (find by_name m es))) h,
        ap (λ (b : Bool). cond b (Some t.path) (path_under m ts)) under,
      )

  goes_on : (p : Name × Thread B) (es : Entries B) (t : ThreadPath) (ts : List ThreadPath) → t.name ≡ p.0 → path_of p.1 ≡ t.path → (m : Name)
      → look es m ≡ path_under m ts → look (p ∷ es) m ≡ path_under m (t ∷ ts)
  goes_on p es t ts e same m goes = elim (cases_Bool (is_eq (by_name m p.0))) [
    | inl h ↦ let head = at_head m p es t ts e h in head.0 ∙ (ap (λ (q : Path). Some q) same ∙ sym head.1)
    | inr h ↦ let head = past_head m p es t ts e h in head.0 ∙ (goes ∙ sym head.1)
  ]

  same_head : (p : Name × Thread B) (es : Entries B) (t : ThreadPath) (ts : List ThreadPath) (o : Option Name) → T (is_sorted by_name (p ∷ es))
      → rise (t ∷ ts) ≡ true → t.name ≡ p.0 → path_of p.1 ≡ t.path → FirstOf es ts o → FirstOf (p ∷ es) (t ∷ ts) o
  same_head p es t ts None sorted rises e same f = λ m. goes_on p es t ts e same m (f m)
  same_head p es t ts (Some n) sorted rises e same f = record {
    differs = λ goes. elim (cases_Bool (is_eq (by_name n p.0))) [
      | inl h ↦
          let is = equal_name n p.0 h in
          f.differs (ap (look es) is ∙ (there_rest p es sorted ∙ sym (ap (λ (k : Name). path_under k ts) (is ∙ sym e) ∙ under_rest t ts rises)))
      | inr h ↦ let head = past_head n p es t ts e h in f.differs (sym head.0 ∙ (goes ∙ head.1))
    ];
    least = λ m less. goes_on p es t ts e same m (f.least m less);
  }

  -- Two first entries with different names.

  head_there : (p : Name × Thread B) (es : Entries B) → look (p ∷ es) p.0 ≡ Some (path_of p.1)
  head_there p es = ap (λ (o : Ordering). option_map path_of (cond (is_eq o) (Some p.1) (find by_name p.0 es))) (itself p.0)

  log_head : (p : Name × Thread B) (es : Entries B) (t : ThreadPath) (ts : List ThreadPath) → T (is_sorted by_name (p ∷ es)) → rise (t ∷ ts) ≡ true
      → by_name t.name p.0 ≡ Less → IsFirst (p ∷ es) (t ∷ ts) t.name
  log_head p es t ts sorted rises less = record {
    differs = λ goes. none-some t.path (sym (there_below t.name p es sorted less) ∙ (goes ∙ under_first t ts));
    least = λ m below. there_below m p es sorted (between m t.name p.0 below less) ∙ sym (under_below m t ts rises below);
  }

  run_head : (p : Name × Thread B) (es : Entries B) (t : ThreadPath) (ts : List ThreadPath) → T (is_sorted by_name (p ∷ es)) → rise (t ∷ ts) ≡ true
      → by_name p.0 t.name ≡ Less → IsFirst (p ∷ es) (t ∷ ts) p.0
  run_head p es t ts sorted rises less = record {
    differs = λ goes. none-some (path_of p.1) (sym (under_below p.0 t ts rises less) ∙ (sym goes ∙ head_there p es));
    least = λ m below. there_below m p es sorted below ∙ sym (under_below m t ts rises (between m p.0 t.name below less));
  }

  other_path : (p : Name × Thread B) (es : Entries B) (t : ThreadPath) (ts : List ThreadPath) → T (is_sorted by_name (p ∷ es)) → rise (t ∷ ts) ≡ true
      → t.name ≡ p.0 → (path_of p.1 ≡ t.path → ⊥) → IsFirst (p ∷ es) (t ∷ ts) p.0
  other_path p es t ts sorted rises e other = record {
    differs = λ goes.
        let under = ap (λ (k : Name). path_under k (t ∷ ts)) (sym e) ∙ under_first t ts in
        let same : Some (path_of p.1) ≡ Some t.path = sym (head_there p es) ∙ (goes ∙ under) in
        other (same_Some (path_of p.1) t.path same);
    least = λ m below. there_below m p es sorted below ∙ sym (under_below m t ts rises (ap (by_name m) e ∙ below));
  }

  log_alone : (t : ThreadPath) (ts : List ThreadPath) → rise (t ∷ ts) ≡ true → IsFirst [] (t ∷ ts) t.name
  log_alone t ts rises = record {
    differs = λ goes. none-some t.path (goes ∙ under_first t ts);
    least = λ m below. sym (under_below m t ts rises below);
  }

  run_alone : (p : Name × Thread B) (es : Entries B) → T (is_sorted by_name (p ∷ es)) → IsFirst (p ∷ es) [] p.0
  run_alone p es sorted = record {
    differs = λ goes. none-some (path_of p.1) (sym goes ∙ head_there p es);
    least = λ m below. there_below m p es sorted below;
  }

  -- the entry at a place is found by its name
  found_at : (es : Entries B) (i : ℕ) (p : Name × Thread B) → T (is_sorted by_name es) → i < length es → get_or es i p ≡ p → look es p.0 ≡ Some (path_of p.1)
  found_at [] i p sorted lt e = absurd (omega arith)
  found_at (q ∷ es) zero p sorted lt e =
      subst (λ (r : Name × Thread B). look (q ∷ es) r.0 ≡ Some (path_of r.1)) e (head_there q es)
  found_at (q ∷ es) (suc i) p sorted lt e =
      let above = above_at es i p q.0 (first_T _ _ sorted) (omega arith) e in
      ap (λ (o : Ordering). option_map path_of (cond (is_eq o) (Some q.1) (find by_name p.0 es))) (nat_list_cmp_total.antisymm p.0 q.0 ∙ ap ordering_reverse
      above)
      ∙ found_at es i p (second_T _ _ sorted) (omega arith) e
    where
      above_at : (es : Entries B) (i : ℕ) (p : Name × Thread B) (k : Name) → T (below_all by_name k es) → i < length es → get_or es i p ≡ p →
          by_name k p.0 ≡ Less
      above_at [] i p k h lt e = absurd (omega arith)
      above_at (q ∷ es) zero p k h lt e = subst (λ (r : Name × Thread B). by_name k r.0 ≡ Less) e (less_T _ (first_T _ _ h))
      above_at (q ∷ es) (suc i) p k h lt e = above_at es i p k (second_T _ _ h) (omega arith) e

  -- The loop over names that both have.

  -- what holds for the rest of both holds for the whole
  abbrev pub LeadsTo : State B → List ThreadPath → ℕ → Type 0
  LeadsTo s ts i = (o : Option Name) → FirstOf (drop i (fin.entries s.threads)) (drop i ts) o → FirstOf (fin.entries s.threads) ts o

  name_at : (es : Entries B) (i : ℕ) (n : Name) → i < length es → get_or (map (λ e. e.0) es) i n ≡ n → (p : Name × Thread B) × (get_or es i p ≡ p) × (p.0 ≡ n)
  name_at [] i n lt e = absurd (omega arith)
  name_at (p ∷ es) zero n lt e = (p, refl, e)
  name_at (p ∷ es) (suc i) n lt e = name_at es i n (omega arith) e

  module _ (s : State B) (ts : List ThreadPath) (i : ℕ) (t : ThreadPath) (n : Name) (few : i < length (fin.entries s.threads)) (lt : i < length ts)
      (here : get_or ts i t ≡ t) (there : get_or (map (λ e. e.0) (fin.entries s.threads)) i n ≡ n) (rises : rise ts ≡ true) where
    heads : (p : Name × Thread B) → get_or (fin.entries s.threads) i p ≡ p → drop i (fin.entries s.threads) ≡ p ∷ drop (i + 1) (fin.entries s.threads)
    heads p e = drop_more (fin.entries s.threads) i p few ∙ ap (λ (q : Name × Thread B). q ∷ drop (i + 1) (fin.entries s.threads)) e

    logged : drop i ts ≡ t ∷ drop (i + 1) ts
    logged = drop_more ts i t lt ∙ ap (λ (u : ThreadPath). u ∷ drop (i + 1) ts) here

    rises_here : rise (t ∷ drop (i + 1) ts) ≡ true
    rises_here = subst (λ (us : List ThreadPath). rise us ≡ true) logged (rises_behind None i ts rises)

    sorted_here : (p : Name × Thread B) → get_or (fin.entries s.threads) i p ≡ p → T (is_sorted by_name (p ∷ drop (i + 1) (fin.entries s.threads)))
    sorted_here p e = subst (λ (qs : Entries B). T (is_sorted by_name qs)) (heads p e) (sorted_drop i (fin.entries s.threads) (fin.entries_sorted s.threads))

    moved : (p : Name × Thread B) → get_or (fin.entries s.threads) i p ≡ p → (o : Option Name)
        → FirstOf (p ∷ drop (i + 1) (fin.entries s.threads)) (t ∷ drop (i + 1) ts) o → FirstOf (drop i (fin.entries s.threads)) (drop i ts) o
    moved p e o f =
        subst (λ (qs : Entries B). FirstOf qs (drop i ts) o) (sym (heads p e))
        (subst (λ (us : List ThreadPath). FirstOf (p ∷ drop (i + 1) (fin.entries s.threads)) us o) (sym logged) f)

    path_there : (p : Name × Thread B) → get_or (fin.entries s.threads) i p ≡ p → path_in s p.0 ≡ Some (path_of p.1)
    path_there p e = ap (option_map path_of) (fin.get-entries s.threads p.0) ∙ found_at (fin.entries s.threads) i p (fin.entries_sorted s.threads) few e

    some_path : (q r : Path) → Some q ≡ Some r → q ≡ r
    some_path q r e = cc

    -- both have the name, with the same path
    record IsShared : Type 0 where
      names : t.name ≡ n
      paths : is_path (path_in s t.name) t.path ≡ true

    shared_of : (x : Ordering) (b : Bool) → by_name t.name n ≡ x → is_path (path_in s t.name) t.path ≡ b
        → by_order x (Some t.name) (cond b None (Some n)) (Some n) ≡ None → IsShared
    shared_of Less b is path e = absurd (none-some t.name (sym e))
    shared_of Equal true is path e = record { names = same_name t.name n is; paths = path }
    shared_of Equal false is path e = absurd (none-some n (sym e))
    shared_of Greater b is path e = absurd (none-some n (sym e))

    pub shared_on : other_at s t n ≡ None → LeadsTo s ts i → LeadsTo s ts (i + 1)
    shared_on e leads o f =
        let shared = shared_of (by_name t.name n) (is_path (path_in s t.name) t.path) refl refl e in
        let at = name_at (fin.entries s.threads) i n few there in
        let p = at.0 in
        let names : t.name ≡ p.0 = shared.names ∙ sym at.2 in
        let path : path_in s p.0 ≡ Some t.path = ap (path_in s) (sym names) ∙ path_is (path_in s t.name) t.path shared.paths in
        let same : path_of p.1 ≡ t.path = some_path (path_of p.1) t.path (sym (path_there p at.1) ∙ path) in
        leads o (moved p at.1 o (same_head p (drop (i + 1) (fin.entries s.threads)) t (drop (i + 1) ts) o (sorted_here p at.1) rises_here names same f))

    other_of : (m : Name) (x : Ordering) (b : Bool) → by_name t.name n ≡ x → is_path (path_in s t.name) t.path ≡ b
        → by_order x (Some t.name) (cond b None (Some n)) (Some n) ≡ Some m → (p : Name × Thread B) → get_or (fin.entries s.threads) i p ≡ p → p.0 ≡ n
        → IsFirst (p ∷ drop (i + 1) (fin.entries s.threads)) (t ∷ drop (i + 1) ts) m
    other_of m Less b is path e p at named =
        let found = log_head p (drop (i + 1) (fin.entries s.threads)) t (drop (i + 1) ts) (sorted_here p at) rises_here (ap (by_name t.name) named ∙ is) in
        subst (IsFirst (p ∷ drop (i + 1) (fin.entries s.threads)) (t ∷ drop (i + 1) ts)) (same_Some t.name m e) found
    other_of m Equal true is path e p at named = absurd (none-some m e)
    other_of m Equal false is path e p at named =
        let names : t.name ≡ p.0 = same_name t.name n is ∙ sym named in
        let other : path_of p.1 ≡ t.path → ⊥ = λ same. path_not (path_in s t.name) t.path path
        (ap (path_in s) names ∙ (path_there p at ∙ ap (λ (q : Path). Some q) same)) in
        let found = other_path p (drop (i + 1) (fin.entries s.threads)) t (drop (i + 1) ts) (sorted_here p at) rises_here names other in
        subst (IsFirst (p ∷ drop (i + 1) (fin.entries s.threads)) (t ∷ drop (i + 1) ts)) (named ∙ same_Some n m e) found
    other_of m Greater b is path e p at named =
        let less : by_name p.0 t.name ≡ Less = turned t.name p.0 (ap (by_name t.name) named ∙ is) in
        let found = run_head p (drop (i + 1) (fin.entries s.threads)) t (drop (i + 1) ts) (sorted_here p at) rises_here less in
        subst (IsFirst (p ∷ drop (i + 1) (fin.entries s.threads)) (t ∷ drop (i + 1) ts)) (named ∙ same_Some n m e) found

    pub other_here : (m : Name) → other_at s t n ≡ Some m → LeadsTo s ts i → FirstOf (fin.entries s.threads) ts (Some m)
    other_here m e leads =
        let at = name_at (fin.entries s.threads) i n few there in
        leads (Some m) (moved at.0 at.1 (Some m)
        (other_of m (by_name t.name n) (is_path (path_in s t.name) t.path) refl refl e at.0 at.1 at.2))

  -- Names that only one of them has.

  pub only_logged : (s : State B) (ts : List ThreadPath) (i : ℕ) (t : ThreadPath) → length (fin.entries s.threads) ≤ i → i < length ts
      → get_or ts i t ≡ t → rise ts ≡ true → LeadsTo s ts i → FirstOf (fin.entries s.threads) ts (Some t.name)
  only_logged s ts i t none lt here rises leads =
      let logged : drop i ts ≡ t ∷ drop (i + 1) ts = drop_more ts i t lt ∙ ap (λ (u : ThreadPath). u ∷ drop (i + 1) ts) here in
      let rising : rise (t ∷ drop (i + 1) ts) ≡ true = subst (λ (us : List ThreadPath). rise us ≡ true) logged (rises_behind None i ts rises) in
      let run : drop i (fin.entries s.threads) ≡ [] = drop_all i (fin.entries s.threads) none in
      leads (Some t.name)
      (subst (λ (qs : Entries B). IsFirst qs (drop i ts) t.name) (sym run)
      (subst (λ (us : List ThreadPath). IsFirst [] us t.name) (sym logged) (log_alone t (drop (i + 1) ts) rising)))

  pub only_run : (s : State B) (ts : List ThreadPath) (i : ℕ) (n : Name) → length ts ≤ i → i < length (fin.entries s.threads)
      → get_or (map (λ e. e.0) (fin.entries s.threads)) i n ≡ n → LeadsTo s ts i → FirstOf (fin.entries s.threads) ts (Some n)
  only_run s ts i n none few there leads =
      let run = fin.entries s.threads in
      let at = name_at run i n few there in
      let p = at.0 in
      let heads : drop i run ≡ p ∷ drop (i + 1) run = drop_more run i p few ∙ ap (λ (q : Name × Thread B). q ∷ drop (i + 1) run) at.1 in
      let sorted = subst (λ (qs : Entries B). T (is_sorted by_name qs)) heads (sorted_drop i run (fin.entries_sorted s.threads)) in
      let alone : IsFirst (p ∷ drop (i + 1) run) [] n = subst (IsFirst (p ∷ drop (i + 1) run) []) at.2 (run_alone p (drop (i + 1) run) sorted) in
      leads (Some n)
      (subst (λ (us : List ThreadPath). IsFirst (drop i run) us n) (sym (drop_all i ts none))
      (subst (λ (qs : Entries B). IsFirst qs [] n) (sym heads) alone))

  pub neither : (s : State B) (ts : List ThreadPath) (i : ℕ) → length ts ≤ i → length (fin.entries s.threads) ≤ i → LeadsTo s ts i
      → FirstOf (fin.entries s.threads) ts None
  neither s ts i none few leads =
      leads None (λ m. ap (λ (qs : Entries B). look qs m) (drop_all i (fin.entries s.threads) few) ∙ ap (path_under m) (sym (drop_all i ts none)))

  -- The reader's names and threads are the state's and the log's.
  module _ (s : State B) (log : Log) (names : List Name) (threads : List ThreadPath) (keys : names ≡ fin.keys s.threads) (logged : threads ≡ log.threads)
      (lawful : is_log log ≡ true) where
    rising : rise log.threads ≡ true
    rising = (and_parts (rises_from None log.threads) (is_there log.failing (length log.threads)) lawful).0

    as_many : length names ≡ length (fin.entries s.threads)
    as_many = ap length keys ∙ length-map (fin.entries s.threads) (λ e. e.0)

    as_long : length threads ≡ length log.threads
    as_long = ap length logged

    name_there : (i : ℕ) (n : Name) → n ≡ get_or names i n → get_or (map (λ e. e.0) (fin.entries s.threads)) i n ≡ n
    name_there i n e = sym (e ∙ ap (λ (ns : List Name). get_or ns i n) keys)

    thread_here : (i : ℕ) (t : ThreadPath) → t ≡ get_or threads i t → get_or log.threads i t ≡ t
    thread_here i t e = sym (e ∙ ap (λ (ts : List ThreadPath). get_or ts i t) logged)

    pub goes_here : (i : ℕ) (t : ThreadPath) (n : Name) → i < length threads → i < length names → t ≡ get_or threads i t → n ≡ get_or names i n
        → None ≡ other_at s t n → LeadsTo s log.threads i → LeadsTo s log.threads (i + 1)
    goes_here i t n lt few here there e leads =
        let many = as_many in
        let long = as_long in
        shared_on s log.threads i t n (omega arith) (omega arith) (thread_here i t here) (name_there i n there) rising (sym e) leads

    pub differs_here : (i : ℕ) (t : ThreadPath) (n m : Name) → i < length threads → i < length names → t ≡ get_or threads i t → n ≡ get_or names i n
        → Some m ≡ other_at s t n → LeadsTo s log.threads i → IsFirstToDiffer s log m
    differs_here i t n m lt few here there e leads =
        let many = as_many in
        let long = as_long in
        first_of_state s log (Some m)
        (other_here s log.threads i t n (omega arith) (omega arith) (thread_here i t here) (name_there i n there) rising m (sym e) leads)

    pub only_in_log : (i j : ℕ) (t : ThreadPath) → i ≡ j → length names ≤ i → i < length threads → t ≡ get_or threads i t → LeadsTo s log.threads j
        → IsFirstToDiffer s log t.name
    only_in_log i j t same none lt here leads =
        let many = as_many in
        let long = as_long in
        first_of_state s log (Some t.name)
        (only_logged s log.threads i t (omega arith) (omega arith) (thread_here i t here) rising (subst (LeadsTo s log.threads) (sym same) leads))

    pub only_in_run : (i j : ℕ) (n : Name) → i ≡ j → length threads ≤ i → i < length names → n ≡ get_or names i n → LeadsTo s log.threads j
        → IsFirstToDiffer s log n
    only_in_run i j n same none few there leads =
        let many = as_many in
        let long = as_long in
        first_of_state s log (Some n)
        (only_run s log.threads i n (omega arith) (omega arith) (name_there i n there) (subst (LeadsTo s log.threads) (sym same) leads))

    pub all_go : (i j : ℕ) → i ≡ j → length threads ≤ i → length names ≤ i → LeadsTo s log.threads j → (n : Name) → GoesAsLogged s log n
    all_go i j same none few leads =
        let many = as_many in
        let long = as_long in
        first_of_state s log None (neither s log.threads i (omega arith) (omega arith) (subst (LeadsTo s log.threads) (sym same) leads))
