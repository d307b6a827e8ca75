-- One more clause before anything is propagated.
use Rattle.std.proofs.Common.{◌≡◌, ◌≢◌, ℕ, ◌<◌, Option, Some, List, [], ◌∷◌, ◌++◌, length, take, get_or, inl, inr, refl, sym, ◌∙◌, ap, subst, arith}
use Rattle.std.specs.Prelude.{Contains}
use Rattle.std.proofs.lemmas.Bool.{cases_eq}
use Rattle.std.proofs.lemmas.List.{get_or_at, length_push, take_all}
use Rattle.std.proofs.lemmas.List.Elements.{Contains-get_or}
use Rattle.cdcl_literals.specs.Literals.{opposite_of}
use Rattle.cdcl_trail.specs.Trail.{Trail, IsTrail, pushed}
use Rattle.cdcl_clauses.specs.Clauses.{Clause, at, no_clause, kept_clause}
use Rattle.cdcl_clauses.specs.Invariants.{IsClause, AreGuarded, IsReason, AreConsistent, AreRooted, root_of}
use Rattle.cdcl_clauses.specs.declared.watches.Watch.{Watch}
use Rattle.cdcl_propagate.proofs.Guarding.{reasoned-pushed}
use Rattle.cdcl_steps.specs.Attached.{both_listed}
use Rattle.cdcl_steps.specs.Loads.{IsAtStart, MayBeLoaded}
use Rattle.cdcl_steps.specs.helpers.Watched.{AreWatched}
use Rattle.cdcl_steps.proofs.OneMore.{at-push, linked-attach, reasoned-push}
use Rattle.cdcl_steps.proofs.Rooting.{only, root-pushed, root-pushed_new}

guarded-start : (t : Trail) (cs : List Clause) → IsAtStart t → AreGuarded t cs
guarded-start t cs s = record {
  below = λ k i kl il. absurd (omega (arith, il, ap length s.starts));
  last = λ k kl l wl fl. absurd (let c : Contains (take 0 t.literals) (opposite_of l) =
      subst (λ (n : ℕ). Contains (take n t.literals) (opposite_of l)) s.propagated fl in omega (arith, c.1));
}

single-list : (ls : List ℕ) → length ls ≡ 1 → ls ≡ get_or ls 0 0 ∷ []
single-list [] e = absurd (omega arith)
single-list (x ∷ []) e = refl
single-list (x ∷ y ∷ ls) e = absurd (omega arith)

pub loaded-clause : (v : ℕ) (ls : List ℕ) (a b : ℕ) → MayBeLoaded v ls → AreWatched ls a b → IsClause v (kept_clause ls a b)
loaded-clause v ls a b m w =
    let first : Contains ls a = subst (λ (x : ℕ). Contains ls x) (sym w.first) (Contains-get_or ls 0 0 m.some) in
    elim (cases_eq (length ls) 1) [
      | inl e ↦
          let l : ls ≡ a ∷ [] = single-list ls e ∙ ap (λ (x : ℕ). x ∷ []) (sym w.first) in
          record { within = m.within; first_in = first; second_in = subst (λ (x : ℕ). Contains ls x) (sym (w.one e)) first; two = λ f. l }
      | inr e ↦
          let h : 1 < length ls = omega (arith, m.some, e) in
          record {
            within = m.within;
            first_in = first;
            second_in = subst (λ (x : ℕ). Contains ls x) (sym (w.more e)) (Contains-get_or ls 1 0 h);
            two = λ f. absurd (m.apart h (sym w.first ∙ f ∙ w.more e));
          }
    ]

pub sound-loaded : (t : Trail) (cs : List Clause) (ws : List (List Watch)) → AreConsistent t cs ws → IsAtStart t → (ls : List ℕ) (a b : ℕ)
    → IsClause t.variables (kept_clause ls a b) → AreConsistent t (cs ++ kept_clause ls a b ∷ []) (both_listed ws (length cs) a b)
sound-loaded t cs ws s start ls a b i = record {
  lawful = s.lawful;
  linked = linked-attach t.variables cs ws s.linked ls a b i;
  guarded = guarded-start t (cs ++ kept_clause ls a b ∷ []) start;
  reasoned = reasoned-push t cs (kept_clause ls a b) s.reasoned;
}

pub sound-loaded_unit : (t : Trail) (cs : List Clause) (ws : List (List Watch)) → AreConsistent t cs ws → IsAtStart t → (ls : List ℕ) (a b : ℕ)
    → IsClause t.variables (kept_clause ls a b) → ls ≡ a ∷ [] → IsTrail (pushed t a (Some (length cs)))
    → AreConsistent (pushed t a (Some (length cs))) (cs ++ kept_clause ls a b ∷ []) (both_listed ws (length cs) a b)
sound-loaded_unit t cs ws s start ls a b i one u =
    let c : Clause = kept_clause ls a b in
    let e : at (cs ++ c ∷ []) (length cs) ≡ c = get_or_at cs c [] no_clause (length cs) refl in
    let r : IsReason (cs ++ c ∷ []) t.literals a (length cs) = record {
      there = omega (arith, length_push cs c);
      kept = ap (λ (d : Clause). d.kept) e;
      has = subst (λ (d : Clause). Contains d.literals a) (sym e) i.first_in;
      others = λ x h n. absurd (n (only ls a x one (subst (λ (d : Clause). Contains d.literals x) e h)));
    } in
    let linked = linked-attach t.variables cs ws s.linked ls a b i in
    record {
      lawful = u;
      linked = record { lists = linked.lists; clauses = linked.clauses; entries = linked.entries; watching = linked.watching };
      guarded = guarded-start (pushed t a (Some (length cs))) (cs ++ c ∷ []) (record { starts = start.starts; propagated = start.propagated });
      reasoned = reasoned-pushed t (cs ++ c ∷ []) s.lawful (reasoned-push t cs c s.reasoned) a (length cs) r;
    }

-- a true literal was true before the first level
root-start : (t : Trail) → IsAtStart t → (x : ℕ) → Contains t.literals x → Contains (root_of t) x
root-start t s x c =
    let n : ℕ = length t.literals in
    let e : get_or t.starts 0 n ≡ n = ap (λ (ss : List ℕ). get_or ss 0 n) s.starts in
    subst (λ (xs : List ℕ). Contains xs x) (sym (ap (λ (m : ℕ). take m t.literals) e ∙ take_all n t.literals (omega arith))) c

rooted-last : (t : Trail) (cs : List Clause) (ls : List ℕ) (a b : ℕ) → (a ≡ b → Contains (root_of t) a) → AreRooted t cs
    → AreRooted t (cs ++ kept_clause ls a b ∷ [])
rooted-last t cs ls a b h old k kl kept f =
    elim (at-push cs (kept_clause ls a b) k kl) [
      | inl e ↦
          let fa : (at (cs ++ kept_clause ls a b ∷ []) k).first ≡ a = ap (λ (c : Clause). c.first) e.1 in
          let fb : (at (cs ++ kept_clause ls a b ∷ []) k).second ≡ b = ap (λ (c : Clause). c.second) e.1 in
          subst (λ (x : ℕ). Contains (root_of t) x) (sym fa) (h (sym fa ∙ f ∙ fb))
      | inr e ↦ subst (λ (c : Clause). Contains (root_of t) c.first) (sym e.1)
          (old k e.0 (sym (ap (λ (c : Clause). c.kept) e.1) ∙ kept) (subst (λ (c : Clause). c.first ≡ c.second) e.1 f))
    ]

pub rooted-two : (t : Trail) (cs : List Clause) (ls : List ℕ) (a b : ℕ) → a ≢ b → AreRooted t cs → AreRooted t (cs ++ kept_clause ls a b ∷ [])
rooted-two t cs ls a b ne old = rooted-last t cs ls a b (λ e. absurd (ne e)) old

pub rooted-true : (t : Trail) (cs : List Clause) (ls : List ℕ) (a b : ℕ) → IsAtStart t → Contains t.literals a → AreRooted t cs
    → AreRooted t (cs ++ kept_clause ls a b ∷ [])
rooted-true t cs ls a b s c old = rooted-last t cs ls a b (λ e. root-start t s a c) old

pub rooted-unit : (t : Trail) (cs : List Clause) (ls : List ℕ) (a b : ℕ) (r : Option ℕ) → IsAtStart t → AreRooted t cs
    → AreRooted (pushed t a r) (cs ++ kept_clause ls a b ∷ [])
rooted-unit t cs ls a b r s old =
    rooted-last (pushed t a r) cs ls a b (λ e. root-pushed_new t a r s.starts)
    (λ k kl kept f. root-pushed t a r (at cs k).first (old k kl kept f))

pub first-is : (ls : List ℕ) (a : ℕ) → length ls ≡ 1 → a ≡ get_or ls 0 0 → ls ≡ a ∷ []
first-is ls a e f = single-list ls e ∙ ap (λ (x : ℕ). x ∷ []) (sym f)

pub one_apart : (ls : List ℕ) (a b v : ℕ) → MayBeLoaded v ls → AreWatched ls a b → 1 < length ls → a ≢ b
one_apart ls a b v m w h e = m.apart h (sym w.first ∙ e ∙ w.more (omega arith))
