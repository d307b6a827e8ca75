-- Guards and reasons stay as watches move, and as the trail grows.
use Rattle.std.proofs.Common.{
  ◌≡◌,
  ℕ,
  ◌+◌,
  ◌<◌,
  true,
  Option,
  Some,
  None,
  List,
  [],
  ◌∷◌,
  ◌++◌,
  length,
  take,
  get_or,
  inl,
  inr,
  refl,
  sym,
  ◌∙◌,
  ap,
  subst,
  arith,
  length-set,
  get_or-take,
}
use Rattle.std.specs.Prelude.{Contains, MatchOption}
use Rattle.std.proofs.lemmas.Bool.{cases_lt}
use Rattle.std.proofs.lemmas.List.{get_or_at, get_or_append_left, length_push, take-append-le, take_all, length-take, take-take, take_more}
use Rattle.std.proofs.lemmas.List.Elements.{Contains-append_left, Contains-push_cases}
use Rattle.cdcl_literals.specs.Literals.{opposite_of}
use Rattle.cdcl_trail.specs.Trail.{Trail, IsTrail, pushed}
use Rattle.cdcl_clauses.specs.Clauses.{Clause, at, watches}
use Rattle.cdcl_clauses.specs.Invariants.{HasTrue, Guards, AreGuarded, IsReason, BeginsAt, AreReasoned, AreSame, Extends}
use Rattle.cdcl_propagate.proofs.Links.{at-set, watches-cases, rewatched, at-rewatched}

pub contains-take : (xs : List ℕ) (n x : ℕ) → Contains (take n xs) x → Contains xs x
contains-take xs n x (k, h, e) =
    let m : k < n = omega (arith, length-take n xs) in
    (k, omega (arith, length-take n xs), sym (get_or-take n xs k x m) ∙ e)

pub has_true-same : (xs : List ℕ) (c d : Clause) → d.literals ≡ c.literals → HasTrue xs c → HasTrue xs d
has_true-same xs c d e h = record { literal = h.literal; in_clause = subst (λ (ls : List ℕ). Contains ls h.literal) (sym e) h.in_clause; is_true = h.is_true }

pub has_true-push : (xs : List ℕ) (x : ℕ) (c : Clause) → HasTrue xs c → HasTrue (xs ++ x ∷ []) c
has_true-push xs x c h = record { literal = h.literal; in_clause = h.in_clause; is_true = Contains-append_left xs (x ∷ []) h.literal h.is_true }

-- a clause that watches another literal, which isn't false, still guards
pub guards-rewatched : (ys xs : List ℕ) (cs : List Clause) (k first second m : ℕ) → k < length cs → watches (at cs k) first ≡ true
    → (Contains ys (opposite_of second) → ⊥) → Guards ys xs (at cs m) → Guards ys xs (at (rewatched cs k first second) m)
guards-rewatched ys xs cs k first second m h wf ns g l wl fl =
    let c : Clause = record (at cs k) { first = first; second = second } in
    elim (at-set cs k m c h) [
      | inl e ↦
          let r : HasTrue xs (at cs m) = elim (watches-cases c l (sym (ap (λ (c : Clause). watches c l) e.1) ∙ wl)).1 [
            | inl f ↦ g l (ap (λ (n : ℕ). watches (at cs n) l) e.0 ∙ ap (watches (at cs k)) f ∙ wf) fl
            | inr f ↦ absurd (ns (subst (λ (x : ℕ). Contains ys (opposite_of x)) f fl))
          ] in
          has_true-same xs (at cs m) (at (rewatched cs k first second) m) (at-rewatched cs k first second m h).0 r
      | inr e ↦ has_true-same xs (at cs m) (at (rewatched cs k first second) m) (at-rewatched cs k first second m h).0
          (g l (sym (ap (λ (c : Clause). watches c l) e.1) ∙ wl) fl)
    ]

pub guarded-rewatched : (t : Trail) (cs : List Clause) → AreGuarded t cs → (k first second : ℕ) → k < length cs → watches (at cs k) first ≡ true
    → (Contains t.literals (opposite_of second) → ⊥) → AreGuarded t (rewatched cs k first second)
guarded-rewatched t cs s k first second h wf ns =
    let n = length-set cs k (record (at cs k) { first = first; second = second }) in
    record {
      below = λ m i ml il. guards-rewatched (take (get_or t.starts i 0) t.literals) (take (get_or t.starts i 0) t.literals) cs k first second m h wf
          (λ f. ns (contains-take t.literals (get_or t.starts i 0) (opposite_of second) f)) (s.below m i (omega (arith, n)) il);
      last = λ m ml. guards-rewatched (take t.propagated t.literals) t.literals cs k first second m h wf
          (λ f. ns (contains-take t.literals t.propagated (opposite_of second) f)) (s.last m (omega (arith, n)));
    }

-- clauses stay guarded on a longer trail
pub guarded-pushed : (t : Trail) (cs : List Clause) → IsTrail t → AreGuarded t cs → (l : ℕ) (r : Option ℕ) → AreGuarded (pushed t l r) cs
guarded-pushed t cs u s l r =
    let early : (i : ℕ) → i < length t.starts → take (get_or t.starts i 0) (t.literals ++ l ∷ []) ≡ take (get_or t.starts i 0) t.literals =
    λ i il. take-append-le (get_or t.starts i 0) t.literals (l ∷ []) (omega (arith, u.starts_proper i il)) in
    record {
      below = λ m i ml il. subst (λ (xs : List ℕ). Guards xs xs (at cs m)) (sym (early i il)) (s.below m i ml il);
      last = λ m ml x wx fx. has_true-push t.literals l (at cs m)
          (s.last m ml x wx (subst (λ (xs : List ℕ). Contains xs (opposite_of x)) (take-append-le t.propagated t.literals (l ∷ []) u.propagated_fits) fx));
    }

-- one more literal is propagated, and all its clauses have a true literal
pub guarded-advanced : (t : Trail) (cs : List Clause) → AreGuarded t cs → t.propagated < length t.literals
    → ((k l : ℕ) → k < length cs → watches (at cs k) l ≡ true → opposite_of l ≡ get_or t.literals t.propagated 0 → HasTrue t.literals (at cs k))
    → AreGuarded (record t { propagated = t.propagated + 1 }) cs
guarded-advanced t cs s h v =
    record {
      below = s.below;
      last = λ m ml x wx fx.
          elim (Contains-push_cases (take t.propagated t.literals) (get_or t.literals t.propagated 0) (opposite_of x)
          (subst (λ (xs : List ℕ). Contains xs (opposite_of x)) (take_more t.literals t.propagated 0 h) fx)) [
            | inl f ↦ s.last m ml x wx f
            | inr f ↦ v m x ml wx (sym f)
          ];
    }

reason-same : (cs ds : List Clause) → AreSame cs ds → (xs : List ℕ) (l k : ℕ) → IsReason cs xs l k → IsReason ds xs l k
reason-same cs ds e xs l k r =
    record {
      there = omega (arith, r.there, e.count);
      kept = e.kept k ∙ r.kept;
      has = subst (λ (ls : List ℕ). Contains ls l) (sym (e.literals k)) r.has;
      others = λ x h n. r.others x (subst (λ (ls : List ℕ). Contains ls x) (e.literals k) h) n;
    }

pub match-map : (P P' : Type 0) (Q Q' : ℕ → Type 0) (o : Option ℕ) → (P → P') → ((k : ℕ) → Q k → Q' k) → MatchOption o P Q → MatchOption o P' Q'
match-map P P' Q Q' None f g h = f h
match-map P P' Q Q' (Some k) f g h = g k h

pub reasoned-same : (t : Trail) (cs ds : List Clause) → AreSame cs ds → AreReasoned t cs → AreReasoned t ds
reasoned-same t cs ds e s p h =
    match-map (BeginsAt t p) (BeginsAt t p) (IsReason cs (take p t.literals) (get_or t.literals p 0)) (IsReason ds (take p t.literals) (get_or t.literals p 0))
    (get_or t.reasons p None) (λ b. b)
    (λ k r. reason-same cs ds e (take p t.literals) (get_or t.literals p 0) k r) (s p h)

-- one more literal with its reason
pub reasoned-pushed : (t : Trail) (cs : List Clause) → IsTrail t → AreReasoned t cs → (l k : ℕ) → IsReason cs t.literals l k
    → AreReasoned (pushed t l (Some k)) cs
reasoned-pushed t cs u s l k r p h =
    let n : ℕ = length t.literals in
    elim (cases_lt p n) [
      | inl f ↦
          let e0 : get_or (t.reasons ++ Some k ∷ []) p None ≡ get_or t.reasons p None = get_or_append_left t.reasons (Some k ∷ []) None p
          (omega (arith, u.reasons_fit)) in
          let e1 : take p (t.literals ++ l ∷ []) ≡ take p t.literals = take-append-le p t.literals (l ∷ []) (omega arith) in
          let e2 : get_or (t.literals ++ l ∷ []) p 0 ≡ get_or t.literals p 0 = get_or_append_left t.literals (l ∷ []) 0 p f in
          subst (λ (o : Option ℕ). MatchOption o (BeginsAt (pushed t l (Some k)) p)
          (IsReason cs (take p (t.literals ++ l ∷ [])) (get_or (t.literals ++ l ∷ []) p 0))) (sym e0)
          (match-map (BeginsAt t p) (BeginsAt (pushed t l (Some k)) p) (IsReason cs (take p t.literals) (get_or t.literals p 0))
          (IsReason cs (take p (t.literals ++ l ∷ [])) (get_or (t.literals ++ l ∷ []) p 0)) (get_or t.reasons p None)
          (λ b. record { level = b.level; within = b.within; there = b.there })
          (λ k r. subst (λ (xs : List ℕ). IsReason cs xs (get_or (t.literals ++ l ∷ []) p 0) k) (sym e1)
          (subst (λ (x : ℕ). IsReason cs (take p t.literals) x k) (sym e2) r))
          (s p f))
      | inr f ↦
          let e : p ≡ n = omega (arith, h, length_push t.literals l) in
          let e0 : get_or (t.reasons ++ Some k ∷ []) p None ≡ Some k = get_or_at t.reasons (Some k) [] None p (u.reasons_fit ∙ sym e) in
          let e1 : take p (t.literals ++ l ∷ []) ≡ t.literals = take-append-le p t.literals (l ∷ []) (omega arith) ∙ take_all p t.literals (omega arith) in
          let e2 : get_or (t.literals ++ l ∷ []) p 0 ≡ l = get_or_at t.literals l [] 0 p (sym e) in
          subst (λ (o : Option ℕ). MatchOption o (BeginsAt (pushed t l (Some k)) p)
          (IsReason cs (take p (t.literals ++ l ∷ [])) (get_or (t.literals ++ l ∷ []) p 0))) (sym e0)
          (subst (λ (xs : List ℕ). IsReason cs xs (get_or (t.literals ++ l ∷ []) p 0) k) (sym e1) (subst (λ (x : ℕ). IsReason cs t.literals x k) (sym e2) r))
    ]

pub same-trans : (cs ds es : List Clause) → AreSame cs ds → AreSame ds es → AreSame cs es
same-trans cs ds es a b = record { count = b.count ∙ a.count; literals = λ k. b.literals k ∙ a.literals k; kept = λ k. b.kept k ∙ a.kept k }

pub same-rewatched : (cs : List Clause) (k first second : ℕ) → k < length cs → AreSame cs (rewatched cs k first second)
same-rewatched cs k first second h = record {
  count = length-set cs k (record (at cs k) { first = first; second = second });
  literals = λ m. (at-rewatched cs k first second m h).0;
  kept = λ m. (at-rewatched cs k first second m h).1;
}

pub extends-pushed : (t : Trail) (l : ℕ) (r : Option ℕ) → Extends t (pushed t l r)
extends-pushed t l r = record {
  variables = refl;
  starts = refl;
  literals = take-append-le (length t.literals) t.literals (l ∷ []) (omega arith) ∙ take_all (length t.literals) t.literals (omega arith);
  longer = omega (arith, length_push t.literals l);
}

pub extends-trans : (t u v : Trail) → Extends t u → Extends u v → Extends t v
extends-trans t u v a b = record {
  variables = b.variables ∙ a.variables;
  starts = b.starts ∙ a.starts;
  literals = sym (take-take (length t.literals) (length u.literals) v.literals a.longer) ∙ ap (take (length t.literals)) b.literals ∙ a.literals;
  longer = omega (arith, a.longer, b.longer);
}

pub extends-advanced : (t u : Trail) → Extends t u → Extends t (record u { propagated = u.propagated + 1 })
extends-advanced t u e = record { variables = e.variables; starts = e.starts; literals = e.literals; longer = e.longer }

pub reasoned-advanced : (t : Trail) (cs : List Clause) → AreReasoned t cs → AreReasoned (record t { propagated = t.propagated + 1 }) cs
reasoned-advanced t cs s p h =
    match-map (BeginsAt t p) (BeginsAt (record t { propagated = t.propagated + 1 }) p) (IsReason cs (take p t.literals) (get_or t.literals p 0))
    (IsReason cs (take p t.literals) (get_or t.literals p 0)) (get_or t.reasons p None)
    (λ b. record { level = b.level; within = b.within; there = b.there }) (λ k r. r) (s p h)
