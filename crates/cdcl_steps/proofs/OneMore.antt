-- One more clause is kept, and its open literal becomes true.
use Rattle.std.proofs.Common.{◌≡◌, ◌≢◌, ℕ, ◌*◌, ◌<◌, ◌⊎◌, Some, None, List, [], ◌∷◌, ◌++◌, length, take, get_or, set, inl, inr, refl, sym, ◌∙◌, ap, subst, arith, length-set}
use Rattle.std.specs.Prelude.{Contains, All}
use Rattle.std.proofs.lemmas.Bool.{cases_lt}
use Rattle.std.proofs.lemmas.List.{get_or_at, get_or_append_left, length_push, take-append-le}
use Rattle.std.proofs.lemmas.List.Elements.{All-push, All-contains, Contains-push}
use Rattle.cdcl_literals.specs.Literals.{opposite_of}
use Rattle.cdcl_trail.specs.Trail.{Trail, IsTrail, pushed}
use Rattle.cdcl_clauses.specs.Clauses.{Clause, at, no_clause, watches, listed, kept_clause}
use Rattle.cdcl_clauses.specs.Invariants.{Guards, IsClause, IsListed, IsWatch, AreLinked, AreGuarded, IsReason, AreReasoned, AreConsistent, BeginsAt}
use Rattle.cdcl_clauses.specs.declared.watches.Watch.{Watch}
use Rattle.cdcl_propagate.proofs.Links.{listed-set, listed-push, listed-last, watches-cases}
use Rattle.cdcl_propagate.proofs.Guarding.{contains-take, reasoned-pushed, guarded-pushed, match-map}
use Rattle.cdcl_steps.specs.Attached.{both_listed, CanAssert}

pub at-push : (cs : List Clause) (c : Clause) (k : ℕ) → k < length (cs ++ c ∷ []) → ((k ≡ length cs) × (at (cs ++ c ∷ []) k ≡ c))
    ⊎ ((k < length cs) × (at (cs ++ c ∷ []) k ≡ at cs k))
at-push cs c k h =
    elim (cases_lt k (length cs)) [
      | inl d ↦ inr (d, get_or_append_left cs (c ∷ []) no_clause k d)
      | inr d ↦ (let e : k ≡ length cs = omega (arith, h, d, length_push cs c) in inl (e, get_or_at cs c [] no_clause k (sym e)))
    ]

watch-push : (v : ℕ) (cs : List Clause) (c : Clause) (w : Watch) → IsWatch v cs w → IsWatch v (cs ++ c ∷ []) w
watch-push v cs c w i = record {
  clause_there = omega (arith, i.clause_there, length_push cs c);
  blocker_in = subst (λ (d : Clause). Contains d.literals w.blocker) (sym (get_or_append_left cs (c ∷ []) no_clause w.clause i.clause_there)) i.blocker_in;
  blocker_within = i.blocker_within;
}

watch-new : (v : ℕ) (cs : List Clause) (c : Clause) (x : ℕ) → Contains c.literals x → x < 2 * v
    → IsWatch v (cs ++ c ∷ []) (record { clause = length cs; blocker = x })
watch-new v cs c x h w = record {
  clause_there = omega (arith, length_push cs c);
  blocker_in = subst (λ (d : Clause). Contains d.literals x) (sym (get_or_at cs c [] no_clause (length cs) refl)) h;
  blocker_within = w;
}

entries-push : (v : ℕ) (ds : List Clause) (ws : List (List Watch)) (l : ℕ) (w : Watch) → l < length ws → IsWatch v ds w
    → ((m : ℕ) → All (IsWatch v ds) (listed ws m)) → (m : ℕ) → All (IsWatch v ds) (listed (set ws l (listed ws l ++ w ∷ [])) m)
entries-push v ds ws l w h iw s m =
    elim (listed-set ws l m (listed ws l ++ w ∷ []) h) [
      | inl e ↦ subst (λ (us : List Watch). All (IsWatch v ds) us) (sym e.1) (All-push (IsWatch v ds) (listed ws l) w (s l) iw)
      | inr e ↦ subst (λ (us : List Watch). All (IsWatch v ds) us) (sym e.1) (s m)
    ]

pub linked-attach : (v : ℕ) (cs : List Clause) (ws : List (List Watch)) → AreLinked v cs ws → (ls : List ℕ) (a b : ℕ) → IsClause v (kept_clause ls a b)
    → AreLinked v (cs ++ kept_clause ls a b ∷ []) (both_listed ws (length cs) a b)
linked-attach v cs ws s ls a b i =
    let c : Clause = kept_clause ls a b in
    let k : ℕ = length cs in
    let wa : Watch = record { clause = k; blocker = b } in
    let wb : Watch = record { clause = k; blocker = a } in
    let al : a < 2 * v = All-contains (λ l. l < 2 * v) ls a i.within i.first_in in
    let bl : b < 2 * v = All-contains (λ l. l < 2 * v) ls b i.within i.second_in in
    let us : List (List Watch) = set ws a (listed ws a ++ wa ∷ []) in
    let ah : a < length ws = omega (arith, al, s.lists) in
    let bh : b < length us = omega (arith, bl, s.lists, length-set ws a (listed ws a ++ wa ∷ [])) in
    record {
      lists = length-set us b (listed us b ++ wb ∷ []) ∙ length-set ws a (listed ws a ++ wa ∷ []) ∙ s.lists;
      clauses = λ m ml kept. elim (at-push cs c m ml) [
        | inl e ↦ subst (λ (d : Clause). IsClause v d) (sym e.1) i
        | inr e ↦ subst (λ (d : Clause). IsClause v d) (sym e.1) (s.clauses m e.0 (sym (ap (λ (d : Clause). d.kept) e.1) ∙ kept))
      ];
      entries = entries-push v (cs ++ c ∷ []) us b wb bh (watch-new v cs c a i.first_in al)
          (entries-push v (cs ++ c ∷ []) ws a wa ah (watch-new v cs c b i.second_in bl)
          (λ m j d jl. watch-push v cs c (get_or (listed ws m) j d) (s.entries m j d jl)));
      watching = λ m l ml wl. elim (at-push cs c m ml) [
        | inl e ↦ subst (λ (n : ℕ). IsListed (both_listed ws k a b) l n) (sym e.0)
            (elim (watches-cases c l (sym (ap (λ (d : Clause). watches d l) e.1) ∙ wl)).1 [
              | inl f ↦ subst (λ (x : ℕ). IsListed (both_listed ws k a b) x k) (sym f) (listed-push us b wb bh a k (listed-last ws a wa ah))
              | inr f ↦ subst (λ (x : ℕ). IsListed (both_listed ws k a b) x k) (sym f) (listed-last us b wb bh)
            ])
        | inr e ↦ listed-push us b wb bh l m (listed-push ws a wa ah l m (s.watching m l e.0 (sym (ap (λ (d : Clause). watches d l) e.1) ∙ wl)))
      ];
    }

guards-push : (ys xs : List ℕ) (cs : List Clause) (c : Clause) (k : ℕ) → k < length (cs ++ c ∷ [])
    → ((m : ℕ) → m < length cs → Guards ys xs (at cs m)) → Guards ys xs c → Guards ys xs (at (cs ++ c ∷ []) k)
guards-push ys xs cs c k h old new =
    elim (at-push cs c k h) [
      | inl e ↦ subst (λ (d : Clause). Guards ys xs d) (sym e.1) new
      | inr e ↦ subst (λ (d : Clause). Guards ys xs d) (sym e.1) (old k e.0)
    ]

-- the clause guards: one watched literal becomes true, and the other is false on no lower level
pub guarded-attach : (t : Trail) (cs : List Clause) → IsTrail t → AreGuarded t cs → (ls : List ℕ) (a b : ℕ) → CanAssert t ls a b → (r : ℕ)
    → AreGuarded (pushed t a (Some r)) (cs ++ kept_clause ls a b ∷ [])
guarded-attach t cs u s ls a b can r =
    let c : Clause = kept_clause ls a b in
    let old = guarded-pushed t cs u s a (Some r) in
    record {
      below = λ k i kl il.
          let n : ℕ = get_or t.starts i 0 in
          let early : take n (t.literals ++ a ∷ []) ≡ take n t.literals = take-append-le n t.literals (a ∷ []) (omega (arith, u.starts_proper i il)) in
          guards-push (take n (t.literals ++ a ∷ [])) (take n (t.literals ++ a ∷ [])) cs c k kl (λ m ml. old.below m i ml il)
          (λ l wl fl.
          let fl' : Contains (take n t.literals) (opposite_of l) = subst (λ (xs : List ℕ). Contains xs (opposite_of l)) early fl in
          let not_a : l ≢ a = λ e. can.opens.not_false (subst (λ (x : ℕ). Contains t.literals (opposite_of x)) e
          (contains-take t.literals n (opposite_of l) fl')) in
          absurd (elim (watches-cases c l wl).1 [
            | inl e ↦ not_a e
            | inr e ↦ can.high i il (λ f. not_a (e ∙ f)) (subst (λ (x : ℕ). Contains (take n t.literals) (opposite_of x)) e fl')
          ]));
      last = λ k kl. guards-push (take t.propagated (t.literals ++ a ∷ [])) (t.literals ++ a ∷ []) cs c k kl (λ m ml. old.last m ml)
          (λ l wl fl. record { literal = a; in_clause = can.has; is_true = Contains-push t.literals a });
    }

reason-push : (cs : List Clause) (c : Clause) (xs : List ℕ) (l k : ℕ) → IsReason cs xs l k → IsReason (cs ++ c ∷ []) xs l k
reason-push cs c xs l k r =
    let e : at (cs ++ c ∷ []) k ≡ at cs k = get_or_append_left cs (c ∷ []) no_clause k r.there in
    record {
      there = omega (arith, r.there, length_push cs c);
      kept = ap (λ (d : Clause). d.kept) e ∙ r.kept;
      has = subst (λ (d : Clause). Contains d.literals l) (sym e) r.has;
      others = λ x h n. r.others x (subst (λ (d : Clause). Contains d.literals x) e h) n;
    }

pub reasoned-push : (t : Trail) (cs : List Clause) (c : Clause) → AreReasoned t cs → AreReasoned t (cs ++ c ∷ [])
reasoned-push t cs c s p h =
    match-map (BeginsAt t p) (BeginsAt t p) (IsReason cs (take p t.literals) (get_or t.literals p 0))
    (IsReason (cs ++ c ∷ []) (take p t.literals) (get_or t.literals p 0)) (get_or t.reasons p None)
    (λ b. b) (λ k r. reason-push cs c (take p t.literals) (get_or t.literals p 0) k r) (s p h)

pub sound-assert : (t : Trail) (cs : List Clause) (ws : List (List Watch)) → AreConsistent t cs ws → (ls : List ℕ) (a b : ℕ) → CanAssert t ls a b
    → IsTrail (pushed t a (Some (length cs))) → AreConsistent (pushed t a (Some (length cs))) (cs ++ kept_clause ls a b ∷ []) (both_listed ws (length cs) a b)
sound-assert t cs ws s ls a b can u =
    let c : Clause = kept_clause ls a b in
    let e : at (cs ++ c ∷ []) (length cs) ≡ c = get_or_at cs c [] no_clause (length cs) refl in
    let i : IsClause t.variables c = record { within = can.within; first_in = can.has; second_in = can.beside_in; two = λ f. can.single (sym f) } in
    let r : IsReason (cs ++ c ∷ []) t.literals a (length cs) = record {
      there = omega (arith, length_push cs c);
      kept = ap (λ (d : Clause). d.kept) e;
      has = subst (λ (d : Clause). Contains d.literals a) (sym e) can.has;
      others = λ x h n. can.others x (subst (λ (d : Clause). Contains d.literals x) e h) n;
    } in
    let linked = linked-attach t.variables cs ws s.linked ls a b i in
    record {
      lawful = u;
      linked = record { lists = linked.lists; clauses = linked.clauses; entries = linked.entries; watching = linked.watching };
      guarded = guarded-attach t cs s.lawful s.guarded ls a b can (length cs);
      reasoned = reasoned-pushed t (cs ++ c ∷ []) s.lawful (reasoned-push t cs c s.reasoned) a (length cs) r;
    }
