-- A clause that isn't a reason is deleted.
use Rattle.std.proofs.Common.{◌≡◌, ◌≢◌, ℕ, ◌<◌, Option, Some, None, true, false, List, length, take, get_or, inl, inr, sym, ◌∙◌, ap, subst, arith, length-set}
use Rattle.std.specs.Prelude.{Contains, MatchOption}
use Rattle.cdcl_trail.specs.Trail.{Trail, IsNoReason}
use Rattle.cdcl_clauses.specs.Clauses.{Clause, at, watches, listed, dropped}
use Rattle.cdcl_clauses.specs.Invariants.{Guards, IsClause, AreLinked, AreGuarded, IsReason, AreConsistent, BeginsAt, AreRooted}
use Rattle.cdcl_clauses.specs.declared.watches.Watch.{Watch}
use Rattle.cdcl_propagate.proofs.Links.{at-set}

-- the literals are the same
same-literals : (cs : List Clause) (k m : ℕ) → k < length cs → (at (dropped cs k) m).literals ≡ (at cs m).literals
same-literals cs k m h =
    elim (at-set cs k m (record (at cs k) { kept = false }) h) [
      | inl e ↦ ap (λ (c : Clause). c.literals) e.1 ∙ ap (λ (i : ℕ). (at cs i).literals) (sym e.0)
      | inr e ↦ ap (λ (c : Clause). c.literals) e.1
    ]

-- a clause that is still kept is a different one
same-kept : (cs : List Clause) (k m : ℕ) → k < length cs → (at (dropped cs k) m).kept ≡ true → at (dropped cs k) m ≡ at cs m
same-kept cs k m h f =
    elim (at-set cs k m (record (at cs k) { kept = false }) h) [
      | inl e ↦ absurd (let g : false ≡ true = sym (ap (λ (c : Clause). c.kept) e.1) ∙ f in cc)
      | inr e ↦ e.1
    ]

same-watching : (cs : List Clause) (k m l : ℕ) → k < length cs → watches (at (dropped cs k) m) l ≡ true → at (dropped cs k) m ≡ at cs m
same-watching cs k m l h f =
    elim (at-set cs k m (record (at cs k) { kept = false }) h) [
      | inl e ↦ absurd (let g : false ≡ true = sym (ap (λ (c : Clause). watches c l) e.1) ∙ f in cc)
      | inr e ↦ e.1
    ]

linked-forgotten : (v : ℕ) (cs : List Clause) (ws : List (List Watch)) → AreLinked v cs ws → (k : ℕ) → k < length cs → AreLinked v (dropped cs k) ws
linked-forgotten v cs ws s k h =
    let n : length (dropped cs k) ≡ length cs = length-set cs k (record (at cs k) { kept = false }) in
    record {
      lists = s.lists;
      clauses = λ m ml kept. (
          let e = same-kept cs k m h kept in
          subst (λ (c : Clause). IsClause v c) (sym e) (s.clauses m (omega (arith, ml, n)) (sym (ap (λ (c : Clause). c.kept) e) ∙ kept)));
      entries = λ l i d il. (
          let w = s.entries l i d il in
          record {
            clause_there = omega (arith, w.clause_there, n);
            blocker_in = subst (λ (ls : List ℕ). Contains ls (get_or (listed ws l) i d).blocker)
                (sym (same-literals cs k (get_or (listed ws l) i d).clause h)) w.blocker_in;
            blocker_within = w.blocker_within;
          });
      watching = λ m l ml wl. (
          let e = same-watching cs k m l h wl in s.watching m l (omega (arith, ml, n)) (sym (ap (λ (c : Clause). watches c l) e) ∙ wl));
    }

guards-forgotten : (ys xs : List ℕ) (cs : List Clause) (k m : ℕ) → k < length cs → Guards ys xs (at cs m) → Guards ys xs (at (dropped cs k) m)
guards-forgotten ys xs cs k m h g l wl fl =
    let e = same-watching cs k m l h wl in
    let r = g l (sym (ap (λ (c : Clause). watches c l) e) ∙ wl) fl in
    record { literal = r.literal; in_clause = subst (λ (c : Clause). Contains c.literals r.literal) (sym e) r.in_clause; is_true = r.is_true }

guarded-forgotten : (t : Trail) (cs : List Clause) → AreGuarded t cs → (k : ℕ) → k < length cs → AreGuarded t (dropped cs k)
guarded-forgotten t cs s k h =
    let n : length (dropped cs k) ≡ length cs = length-set cs k (record (at cs k) { kept = false }) in
    record {
      below = λ m i ml il. guards-forgotten (take (get_or t.starts i 0) t.literals) (take (get_or t.starts i 0) t.literals) cs k m h
          (s.below m i (omega (arith, ml, n)) il);
      last = λ m ml. guards-forgotten (take t.propagated t.literals) t.literals cs k m h (s.last m (omega (arith, ml, n)));
    }

reason-forgotten : (cs : List Clause) (xs : List ℕ) (l j k : ℕ) → k < length cs → j ≢ k → IsReason cs xs l j → IsReason (dropped cs k) xs l j
reason-forgotten cs xs l j k h ne r =
    elim (at-set cs k j (record (at cs k) { kept = false }) h) [
      | inl e ↦ absurd (ne e.0)
      | inr e ↦ record {
        there = omega (arith, r.there, length-set cs k (record (at cs k) { kept = false }));
        kept = ap (λ (c : Clause). c.kept) e.1 ∙ r.kept;
        has = subst (λ (c : Clause). Contains c.literals l) (sym e.1) r.has;
        others = λ x cx n. r.others x (subst (λ (c : Clause). Contains c.literals x) e.1 cx) n;
      }
    ]

match-forgotten : (P : Type 0) (Q R : ℕ → Type 0) (o : Option ℕ) (k : ℕ) → o ≢ Some k → ((j : ℕ) → j ≢ k → Q j → R j) → MatchOption o P Q
    → MatchOption o P R
match-forgotten P Q R None k n f h = h
match-forgotten P Q R (Some j) k n f h = f j (λ e. n (ap (λ (i : ℕ). Some i) e)) h

pub sound-forgotten : (t : Trail) (cs : List Clause) (ws : List (List Watch)) → AreConsistent t cs ws → (k : ℕ) → k < length cs → IsNoReason t k
    → AreConsistent t (dropped cs k) ws
sound-forgotten t cs ws s k h none = record {
  lawful = s.lawful;
  linked = linked-forgotten t.variables cs ws s.linked k h;
  guarded = guarded-forgotten t cs s.guarded k h;
  reasoned = λ p pl. match-forgotten (BeginsAt t p) (IsReason cs (take p t.literals) (get_or t.literals p 0))
      (IsReason (dropped cs k) (take p t.literals) (get_or t.literals p 0)) (get_or t.reasons p None) k (none p pl)
      (λ j ne r. reason-forgotten cs (take p t.literals) (get_or t.literals p 0) j k h ne r) (s.reasoned p pl);
}

pub rooted-forgotten : (t : Trail) (cs : List Clause) (k : ℕ) → k < length cs → AreRooted t cs → AreRooted t (dropped cs k)
rooted-forgotten t cs k h r m ml kept f =
    let e = same-kept cs k m h kept in
    subst (λ (c : Clause). Contains (take (get_or t.starts 0 (length t.literals)) t.literals) c.first) (sym e)
    (r m (omega (arith, ml, length-set cs k (record (at cs k) { kept = false }))) (sym (ap (λ (c : Clause). c.kept) e) ∙ kept)
    (subst (λ (c : Clause). c.first ≡ c.second) e f))
