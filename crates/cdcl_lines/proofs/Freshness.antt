-- An asserted clause is fresh: unit propagation doesn't find it.
use Rattle.std.proofs.Common.{◌≡◌, ◌≢◌, ℕ, zero, suc, ◌*◌, ◌<◌, Bool, true, false, not, cond, List, [], ◌∷◌, ◌++◌, map, length, take, get_or, ℤ, neg_ℤ, Option, Some, None, inl, inr, refl, sym, ◌∙◌, ap, subst, arith, append-nil, append_assoc}
use Rattle.std.specs.Prelude.{Contains, filter, fold, slice_get, IfSome}
use Rattle.std.specs.Ordering.{int_eq}
use Rattle.std.specs.FinMap.{get}
use Rattle.std.proofs.lemmas.Bool.{cases_lt, cases_eq, false≢true, cases_Bool}
use Rattle.std.proofs.lemmas.List.{take_all, length_push, take-append-le, get_or_default}
use Rattle.std.proofs.lemmas.Option.{slice_get_past, none-some, same_Some}
use Rattle.std.proofs.lemmas.List.Elements.{Contains-append_left, Contains-append_cases, Contains-push}
use Rattle.refute_check.specs.Literals.{is_among}
use Rattle.refute_check.specs.Kept.{KeptClauses}
use Rattle.refute_check.specs.Refutations.{Checking, start, state_after_line}
use Rattle.refute_check.specs.declared.line.Line.{Line}
use Rattle.cdcl_literals.specs.Literals.{opposite_of}
use Rattle.cdcl_trail.specs.Trail.{Trail, IsTrail}
use Rattle.cdcl_trail.proofs.Opposites.{not-both}
use Rattle.cdcl_learn.specs.cdcl_clauses.Clauses.{Clause, at, watches}
use Rattle.cdcl_learn.specs.cdcl_clauses.Invariants.{HasTrue, IsClause, AreConsistent, AreRooted}
use Rattle.cdcl_learn.specs.cdcl_clauses.declared.watches.Watch.{Watch}
use Rattle.cdcl_steps.proofs.cdcl_propagate.Guarding.{contains-take}
use Rattle.cdcl_lines.specs.Literals.{literal_of, clause_of}
use Rattle.cdcl_lines.specs.Keeping.{Represents}
use Rattle.cdcl_lines.specs.Fresh.{others_false, IsUnit, AreUnits, IsFresh, IsFreshLine, FreshGoesOn, AssertedIsFresh, FreshSaysMore, AddedIsFresh}
use Rattle.cdcl_lines.proofs.Members.{
  contains-here,
  contains-there,
  contains-cases,
  contains-none,
  contains-map,
  contains-from_map,
  int-cases,
  among-from,
  among-there,
  slice_get-left,
  slice_get-last,
}
use Rattle.cdcl_lines.proofs.Numbers.{neg-literal, same-literal}
use Rattle.cdcl_lines.proofs.Representing.{kept-within}
use Rattle.cdcl_steps.proofs.cdcl_propagate.Links.{watches-first, watches-second}

-- a set of literals that is closed under units and falsifies no kept clause
pub record IsClosed (kept : KeptClauses) (set : ℤ → Type 0) : Type 0 where
  pub units : (n : ℕ) (c : List ℤ) → get kept n ≡ Some c → (l : ℤ) → Contains c l → ((m : ℤ) → Contains c m → m ≢ l → set (neg_ℤ m)) → set l
  pub unbroken : (n : ℕ) (c : List ℤ) → get kept n ≡ Some c → ((m : ℤ) → Contains c m → set (neg_ℤ m)) → ⊥

-- units stay in such a set
stays : (kept : KeptClauses) (set : ℤ → Type 0) → IsClosed kept set → (trues ls : List ℤ) → ((z : ℤ) → Contains trues z → set z)
    → AreUnits kept trues ls → (z : ℤ) → Contains (trues ++ ls) z → set z
stays kept set c trues [] h u z m = h z (subst (λ (xs : List ℤ). Contains xs z) (append-nil trues) m)
stays kept set c trues (l ∷ ls) h (i, u) z m =
    let new : set l = c.units i.number i.clause i.there l i.has (λ y k e. h (neg_ℤ y) (i.others y k e)) in
    stays kept set c (trues ++ l ∷ []) ls
    (λ y k. elim (Contains-append_cases trues (l ∷ []) y k) [
      | inl a ↦ h y a
      | inr b ↦ elim (contains-cases l [] y b) [ inl e ↦ subst set e new | inr f ↦ absurd (contains-none y f) ]
    ])
    u z (subst (λ (xs : List ℤ). Contains xs z) (sym (append_assoc trues (l ∷ []) ls)) m)

-- a clause is fresh if its other literals are false in such a set and this one isn't in it
pub fresh-from_closed : (kept : KeptClauses) (set : ℤ → Type 0) → IsClosed kept set → (literals : List ℤ) (l : ℤ) → Contains literals l
    → ((z : ℤ) → Contains (others_false literals l) z → set z) → (set l → ⊥) → IsFresh kept literals
fresh-from_closed kept set c literals l there others open' = record {
  literal = l;
  there = there;
  never_true = λ ls u m. open' (stays kept set c (others_false literals l) ls others u l m);
  no_conflict = λ ls u b. c.unbroken b.number b.clause b.there (λ z m. stays kept set c (others_false literals l) ls others u (neg_ℤ z) (b.all_false z m));
}

-- the elements that a filter keeps
filter-contains : (p : ℤ → Bool) (xs : List ℤ) (z : ℤ) → Contains (filter p xs) z → Contains xs z × (p z ≡ true)
filter-contains p [] z h = absurd (contains-none z h)
filter-contains p (x ∷ xs) z h =
    elim (cases_Bool (p x)) [
      | inl e ↦ elim (contains-cases x (filter p xs) z (subst (λ (b : Bool). Contains (cond b (x ∷ filter p xs) (filter p xs)) z) e h)) [
        | inl f ↦ (subst (λ (y : ℤ). Contains (x ∷ xs) y) f (contains-here x xs), subst (λ (y : ℤ). p y ≡ true) f e)
        | inr g ↦ (let r = filter-contains p xs z g in (contains-there x xs z r.0, r.1))
      ]
      | inr e ↦ (let r = filter-contains p xs z (subst (λ (b : Bool). Contains (cond b (x ∷ filter p xs) (filter p xs)) z) e h) in
          (contains-there x xs z r.0, r.1))
    ]

-- a literal of a lawful trail isn't false
pub trail-within : (t : Trail) → IsTrail t → (l : ℕ) → Contains t.literals l → l < 2 * t.variables
trail-within t u l (k, h, e) = omega (arith, u.within k h, get_or_default t.literals k 0 l h, e)

-- whether a literal is true on the trail, as a checker writes it
abbrev OnTrail : Trail → ℤ → Type 0
OnTrail t z = Contains (map literal_of t.literals) z

-- a kept clause that watches a false literal has a true one
pub watched-true : (t : Trail) (cs : List Clause) (ws : List (List Watch)) → AreConsistent t cs ws → t.propagated ≡ length t.literals
    → (k l : ℕ) → k < length cs
    → watches (at cs k) l ≡ true → Contains t.literals (opposite_of l) → HasTrue t.literals (at cs k)
watched-true t cs ws s p k l kl w f =
    s.guarded.last k kl l w (subst (λ (xs : List ℕ). Contains xs (opposite_of l)) (sym (take_all t.propagated t.literals (omega (arith, p)))) f)

-- a kept clause with all literals false except one has a true literal
unit-true : (t : Trail) (cs : List Clause) (ws : List (List Watch)) → AreConsistent t cs ws → AreRooted t cs → t.propagated ≡ length t.literals → (k l : ℕ)
    → (at cs k).kept ≡ true → ((x : ℕ) → Contains (at cs k).literals x → x ≢ l → Contains t.literals (opposite_of x)) → HasTrue t.literals (at cs k)
unit-true t cs ws s r p k l h o =
    let c : Clause = at cs k in
    let kl : k < length cs = kept-within cs k h in
    let i : IsClause t.variables c = s.linked.clauses k kl h in
    elim (cases_eq c.first l) [
      | inl e ↦ elim (cases_eq c.first c.second) [
        | inl f ↦ record {
          literal = c.first;
          in_clause = i.first_in;
          is_true =
              contains-take t.literals (get_or t.starts 0 (length t.literals)) c.first (r k kl h f);
        }
        | inr f ↦ watched-true t cs ws s p k c.second kl (watches-second c h) (o c.second i.second_in (λ g. f (e ∙ sym g)))
      ]
      | inr e ↦ watched-true t cs ws s p k c.first kl (watches-first c h) (o c.first i.first_in e)
    ]

-- a kept clause of the checker is one of the search
pub record IsClauseOf (cs : List Clause) (c : List ℤ) : Type 0 where
  pub index : ℕ
  pub kept : (at cs index).kept ≡ true
  pub same : clause_of (at cs index).literals ≡ c

pub some-kept : (cs : List Clause) (k : ℕ) (c : List ℤ) (b : Bool) → (at cs k).kept ≡ b
    → cond b (Some (clause_of (at cs k).literals)) None ≡ Some c → IsClauseOf cs c
some-kept cs k c true h e = record { index = k; kept = h; same = same_Some (clause_of (at cs k).literals) c e }
some-kept cs k c false h e = absurd (none-some c e)

clause-of : (cs : List Clause) (s : Checking) → Represents cs s → (n : ℕ) (c : List ℤ) → get s.kept n ≡ Some c → IsClauseOf cs c
clause-of cs s r zero c h = absurd (none-some c (sym r.none ∙ h))
clause-of cs s r (suc k) c h = some-kept cs k c (at cs k).kept refl (sym (r.same k) ∙ h)

-- a literal that is false for the checker is false on the trail
from-trail : (t : Trail) (x : ℕ) → OnTrail t (neg_ℤ (literal_of x)) → Contains t.literals (opposite_of x)
from-trail t x h =
    let s = contains-from_map literal_of t.literals (neg_ℤ (literal_of x)) h in
    subst (λ (y : ℕ). Contains t.literals y) (same-literal s.0 (opposite_of x) (s.2 ∙ neg-literal x)) s.1

trail-closed : (t : Trail) (cs : List Clause) (ws : List (List Watch)) (s : Checking) → AreConsistent t cs ws → AreRooted t cs → Represents cs s
    → t.propagated ≡ length t.literals → IsClosed s.kept (OnTrail t)
trail-closed t cs ws s w r p q = record {
  units = λ n c h z m o.
      let d = clause-of cs s p n c h in
      let y = contains-from_map literal_of (at cs d.index).literals z (subst (λ (xs : List ℤ). Contains xs z) (sym d.same) m) in
      let others : (x : ℕ) → Contains (at cs d.index).literals x → x ≢ y.0 → Contains t.literals (opposite_of x) = λ x k e.
      from-trail t x (o (literal_of x) (subst (λ (xs : List ℤ). Contains xs (literal_of x)) d.same (contains-map literal_of (at cs d.index).literals x k))
      (λ f. e (same-literal x y.0 (f ∙ sym y.2)))) in
      let v = unit-true t cs ws w r q d.index y.0 d.kept others in
      elim (cases_eq v.literal y.0) [
        | inl e ↦ subst (λ (a : ℤ). OnTrail t a) (ap literal_of e ∙ y.2) (contains-map literal_of t.literals v.literal v.is_true)
        | inr e ↦ absurd (not-both t w.lawful v.literal v.is_true (others v.literal v.in_clause e))
      ];
  unbroken = λ n c h o.
      let d = clause-of cs s p n c h in
      let all : (x : ℕ) → Contains (at cs d.index).literals x → Contains t.literals (opposite_of x) = λ x k.
      from-trail t x (o (literal_of x) (subst (λ (xs : List ℤ). Contains xs (literal_of x)) d.same (contains-map literal_of (at cs d.index).literals x k))) in
      let i = w.linked.clauses d.index (kept-within cs d.index d.kept) d.kept in
      let v = watched-true t cs ws w q d.index (at cs d.index).first (kept-within cs d.index d.kept) (watches-first (at cs d.index) d.kept)
      (all (at cs d.index).first i.first_in) in
      not-both t w.lawful v.literal v.is_true (all v.literal v.in_clause);
}

not-same : (a b : ℤ) → not (int_eq a b) ≡ true → a ≢ b
not-same a b h e =
    elim (int-cases a b) [ inl f ↦ false≢true (sym (ap not f.0) ∙ h) | inr f ↦ f.1 e ]

pub asserted-fresh : AssertedIsFresh
asserted-fresh t cs ws s literals asserted beside w r p can =
    fresh-from_closed s.kept (OnTrail t) (trail-closed t cs ws s w r p can.propagated) (clause_of literals) (literal_of asserted)
    (contains-map literal_of literals asserted can.has)
    (λ z h.
    let m = contains-from_map neg_ℤ (filter (λ y. not (int_eq y (literal_of asserted))) (clause_of literals)) z h in
    let f = filter-contains (λ y. not (int_eq y (literal_of asserted))) (clause_of literals) m.0 m.1 in
    let x = contains-from_map literal_of literals m.0 f.0 in
    let e : x.0 ≢ asserted = λ g. not-same m.0 (literal_of asserted) f.1 (sym x.2 ∙ ap literal_of g) in
    subst (λ (y : ℤ). OnTrail t y) (sym (neg-literal x.0) ∙ ap neg_ℤ x.2 ∙ m.2) (contains-map literal_of t.literals (opposite_of x.0) (can.others x.0 x.1 e)))
    (λ h.
    let x = contains-from_map literal_of t.literals (literal_of asserted) h in
    can.opens.not_true (subst (λ (y : ℕ). Contains t.literals y) (same-literal x.0 asserted x.2) x.1))

-- one more line
pub fresh-goes_on : FreshGoesOn
fresh-goes_on f lines line h new k =
    elim (cases_lt k (length lines)) [
      | inl d ↦ subst (λ (o : Option Line). IfSome o (λ l. IsFreshLine (fold state_after_line (start f) (take k (lines ++ line ∷ []))).kept l))
          (sym (slice_get-left lines line k d))
          (subst (λ (xs : List Line). IfSome (slice_get lines k) (λ l. IsFreshLine (fold state_after_line (start f) xs).kept l))
          (sym (take-append-le k lines (line ∷ []) (omega arith))) (h k))
      | inr d ↦ elim (cases_eq k (length lines)) [
        | inl e ↦ subst (λ (o : Option Line). IfSome o (λ l. IsFreshLine (fold state_after_line (start f) (take k (lines ++ line ∷ []))).kept l))
            (sym (slice_get-last lines line k e))
            (subst (λ (xs : List Line). IsFreshLine (fold state_after_line (start f) xs).kept line)
            (sym (take-append-le k lines (line ∷ []) (omega arith) ∙ take_all k lines d)) new)
        | inr e ↦ subst (λ (o : Option Line). IfSome o (λ l. IsFreshLine (fold state_after_line (start f) (take k (lines ++ line ∷ []))).kept l))
            (sym (slice_get_past (lines ++ line ∷ []) k (omega (arith, length_push lines line)))) tt
      ]
    ]

filter-there : (p : ℤ → Bool) (xs : List ℤ) (z : ℤ) → Contains xs z → p z ≡ true → Contains (filter p xs) z
filter-there p [] z m h = absurd (contains-none z m)
filter-there p (x ∷ xs) z m h =
    elim (cases_Bool (p x)) [
      | inl e ↦ subst (λ (b : Bool). Contains (cond b (x ∷ filter p xs) (filter p xs)) z) (sym e)
          (elim (contains-cases x xs z m) [
            | inl f ↦ subst (λ (y : ℤ). Contains (x ∷ filter p xs) y) f (contains-here x (filter p xs))
            | inr g ↦ contains-there x (filter p xs) z (filter-there p xs z g h)
          ])
      | inr e ↦ subst (λ (b : Bool). Contains (cond b (x ∷ filter p xs) (filter p xs)) z) (sym e)
          (elim (contains-cases x xs z m) [
            | inl f ↦ absurd (false≢true (sym e ∙ ap p f ∙ h))
            | inr g ↦ filter-there p xs z g h
          ])
    ]

other-false : (literals : List ℤ) (l m : ℤ) → Contains literals m → m ≢ l → Contains (others_false literals l) (neg_ℤ m)
other-false literals l m h n =
    contains-map neg_ℤ (filter (λ y. not (int_eq y l)) literals) m
    (filter-there (λ y. not (int_eq y l)) literals m h (elim (int-cases m l) [ inl e ↦ absurd (n e.1) | inr e ↦ ap not e.0 ]))

pub fresh-says_more : FreshSaysMore
fresh-says_more kept literals f n c e inside =
    let given : List ℤ = others_false literals f.literal in
    elim (cases_Bool (is_among c f.literal)) [
      | inl a ↦
          let u : IsUnit kept given f.literal = record {
            number = n;
            clause = c;
            there = e;
            has = among-from c f.literal a;
            others = λ m h k. other-false literals f.literal m (inside m h) k;
          } in
          f.never_true (f.literal ∷ []) (u, tt) (Contains-push given f.literal)
      | inr a ↦ f.no_conflict [] tt (record {
        number = n;
        clause = c;
        there = e;
        all_false = λ m h. Contains-append_left given [] (neg_ℤ m) (other-false literals f.literal m (inside m h)
            (λ g. false≢true (sym a ∙ among-there c f.literal (subst (λ (y : ℤ). Contains c y) g h))));
      })
    ]

pub added-fresh : AddedIsFresh
added-fresh kept [] hints f = tt
added-fresh kept (l ∷ ls) hints f = f
