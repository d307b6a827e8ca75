-- What backtracking keeps.
use Rattle.std.proofs.Common.{◌≡◌, ℕ, ◌<◌, Option, None, List, length, take, get_or, sym, ◌∙◌, ap, subst, inl, inr, arith, get_or-take}
use Rattle.std.specs.Prelude.{MatchOption}
use Rattle.std.proofs.lemmas.Bool.{cases_lt, cases_eq}
use Rattle.std.proofs.lemmas.List.{take-take, length-take}
use Rattle.cdcl_trail.specs.Trail.{Trail, IsTrail, cut_to}
use Rattle.cdcl_clauses.specs.Clauses.{Clause, at}
use Rattle.cdcl_clauses.specs.Invariants.{Guards, AreGuarded, IsReason, BeginsAt, AreReasoned, AreConsistent}
use Rattle.cdcl_clauses.specs.declared.watches.Watch.{Watch}
use Rattle.cdcl_propagate.proofs.Guarding.{match-map}

pub guarded-cut : (t : Trail) (cs : List Clause) → IsTrail t → AreGuarded t cs → (level : ℕ) → level < length t.starts → AreGuarded (cut_to t level) cs
guarded-cut t cs u s level h =
    let n : ℕ = get_or t.starts level 0 in
    let same : (i : ℕ) → i < level → get_or (take level t.starts) i 0 ≡ get_or t.starts i 0 = λ i il. get_or-take level t.starts i 0 il in
    record {
      below = λ k i kl il.
          let il' : i < level = omega (arith, il, length-take level t.starts) in
          let r : get_or t.starts i 0 < n = u.starts_rise i level il' h in
          let f : take (get_or (take level t.starts) i 0) (take n t.literals) ≡ take (get_or t.starts i 0) t.literals =
          ap (λ (m : ℕ). take m (take n t.literals)) (same i il') ∙ take-take (get_or t.starts i 0) n t.literals (omega arith) in
          subst (λ (xs : List ℕ). Guards xs xs (at cs k)) (sym f) (s.below k i kl (omega (arith, il', h)));
      last = λ k kl. subst (λ (xs : List ℕ). Guards xs (take n t.literals) (at cs k)) (sym (take-take n n t.literals (omega arith))) (s.below k level kl h);
    }

-- a level that begins before another still exists
begins : (t : Trail) → IsTrail t → (level p : ℕ) → level < length t.starts → p < get_or t.starts level 0 → BeginsAt t p → BeginsAt (cut_to t level) p
begins t u level p h pn b =
    elim (cases_lt b.level level) [
      | inl d ↦ record { level = b.level; within = omega (arith, d, h, length-take level t.starts); there = get_or-take level t.starts b.level 0 d ∙ b.there }
      | inr d ↦ elim (cases_eq b.level level) [
        | inl e ↦ absurd (omega (arith, pn, b.there, ap (λ (k : ℕ). get_or t.starts k 0) e))
        | inr e ↦ absurd (let r = u.starts_rise level b.level (omega arith) b.within in omega (arith, r, pn, b.there))
      ]
    ]

pub reasoned-cut : (t : Trail) (cs : List Clause) → IsTrail t → AreReasoned t cs → (level : ℕ) → level < length t.starts → AreReasoned (cut_to t level) cs
reasoned-cut t cs u s level h p pl =
    let n : ℕ = get_or t.starts level 0 in
    let pn : p < n = omega (arith, pl, length-take n t.literals) in
    let pt : p < length t.literals = omega (arith, pl, length-take n t.literals) in
    let e0 : get_or (take n t.reasons) p None ≡ get_or t.reasons p None = get_or-take n t.reasons p None pn in
    let e1 : take p (take n t.literals) ≡ take p t.literals = take-take p n t.literals (omega arith) in
    let e2 : get_or (take n t.literals) p 0 ≡ get_or t.literals p 0 = get_or-take n t.literals p 0 pn in
    subst (λ (o : Option ℕ). MatchOption o (BeginsAt (cut_to t level) p) (IsReason cs (take p (take n t.literals)) (get_or (take n t.literals) p 0))) (sym e0)
    (match-map (BeginsAt t p) (BeginsAt (cut_to t level) p) (IsReason cs (take p t.literals) (get_or t.literals p 0))
    (IsReason cs (take p (take n t.literals)) (get_or (take n t.literals) p 0)) (get_or t.reasons p None)
    (λ b. begins t u level p h pn b)
    (λ k r. subst (λ (xs : List ℕ). IsReason cs xs (get_or (take n t.literals) p 0) k) (sym e1)
    (subst (λ (x : ℕ). IsReason cs (take p t.literals) x k) (sym e2) r))
    (s p pt))

pub sound-cut : (t : Trail) (cs : List Clause) (ws : List (List Watch)) → AreConsistent t cs ws → (level : ℕ) → level < length t.starts
    → IsTrail (cut_to t level) → AreConsistent (cut_to t level) cs ws
sound-cut t cs ws s level h u = record {
  lawful = u;
  linked = record { lists = s.linked.lists; clauses = s.linked.clauses; entries = s.linked.entries; watching = s.linked.watching };
  guarded = guarded-cut t cs s.lawful s.guarded level h;
  reasoned = reasoned-cut t cs s.lawful s.reasoned level h;
}
