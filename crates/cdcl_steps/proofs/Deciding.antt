-- A decision keeps the search's invariant.
use Rattle.std.proofs.Common.{◌≡◌, ℕ, ◌+◌, ◌*◌, ◌/◌, ◌%◌, ◌<◌, ◌≤◌, ◌⊎◌, Option, None, List, [], ◌∷◌, ◌++◌, length, take, get_or, refl, sym, ◌∙◌, ap, subst, inl, inr, arith}
use Rattle.std.specs.Prelude.{Contains, MatchOption}
use Rattle.std.proofs.lemmas.Bool.{cases_lt, cases_eq}
use Rattle.std.proofs.lemmas.Bool.Decides.{nat_tests}
use Rattle.std.proofs.lemmas.List.{get_or_at, get_or_append_left, length_push, take-append-le, take_all, take-take}
use Rattle.cdcl_literals.specs.Literals.{opposite_of}
use Rattle.cdcl_trail.specs.Trail.{Trail, IsTrail, IsOpen, decided}
use Rattle.cdcl_clauses.specs.Clauses.{Clause, at}
use Rattle.cdcl_clauses.specs.Invariants.{Guards, AreGuarded, IsReason, BeginsAt, AreReasoned, AreConsistent}
use Rattle.cdcl_clauses.specs.declared.watches.Watch.{Watch}
use Rattle.cdcl_propagate.specs.Propagation.{Propagates}
use Rattle.cdcl_steps.specs.Descents.{Descends}
use Rattle.cdcl_steps.proofs.Rooting.{root-extends, root-decided, rooted-same}
use Rattle.cdcl_propagate.proofs.Guarding.{match-map, has_true-push}

open-cases : (l v : ℕ) → l / 2 ≡ v → (l ≡ 2 * v) ⊎ (l ≡ 2 * v + 1)
open-cases l v e = elim (cases_eq (l % 2) 0) [ inl h ↦ inl (omega (arith, h, e)) | inr h ↦ inr (omega (arith, h, e)) ]

opposite-even : (v : ℕ) → opposite_of (2 * v) ≡ 2 * v + 1
opposite-even v = grind (arith, nat_tests)

opposite-odd : (v : ℕ) → opposite_of (2 * v + 1) ≡ 2 * v
opposite-odd v = grind (arith, nat_tests)

-- either literal of an open variable is open
pub open-literal : (t : Trail) (l v : ℕ) → l / 2 ≡ v → IsOpen t (2 * v) → IsOpen t l
open-literal t l v e o =
    elim (open-cases l v e) [
      | inl h ↦ subst (λ (x : ℕ). IsOpen t x) (sym h) o
      | inr h ↦ subst (λ (x : ℕ). IsOpen t x) (sym h) (record {
        not_true = λ c. o.not_false (subst (λ (x : ℕ). Contains t.literals x) (sym (opposite-even v)) c);
        not_false = λ c. o.not_true (subst (λ (x : ℕ). Contains t.literals x) (opposite-odd v) c);
      })
    ]

pub guarded-decided : (t : Trail) (cs : List Clause) → IsTrail t → AreGuarded t cs → t.propagated ≡ length t.literals → (l : ℕ) → AreGuarded (decided t l) cs
guarded-decided t cs u s e l =
    let n : ℕ = length t.literals in
    let whole : take t.propagated t.literals ≡ t.literals = take_all t.propagated t.literals (omega (arith, e)) in
    let now : (k : ℕ) → k < length cs → Guards t.literals t.literals (at cs k) = λ k kl. subst (λ (xs : List ℕ). Guards xs t.literals (at cs k)) whole
    (s.last k kl) in
    let early : (m : ℕ) → m ≤ n → take m (t.literals ++ l ∷ []) ≡ take m t.literals = λ m h. take-append-le m t.literals (l ∷ []) h in
    record {
      below = λ k i kl il. elim (cases_lt i (length t.starts)) [
        | inl d ↦
            let f : get_or (t.starts ++ n ∷ []) i 0 ≡ get_or t.starts i 0 = get_or_append_left t.starts (n ∷ []) 0 i d in
            let g : take (get_or (t.starts ++ n ∷ []) i 0) (t.literals ++ l ∷ []) ≡ take (get_or t.starts i 0) t.literals =
            ap (λ (m : ℕ). take m (t.literals ++ l ∷ [])) f ∙ early (get_or t.starts i 0) (omega (arith, u.starts_proper i d)) in
            subst (λ (xs : List ℕ). Guards xs xs (at cs k)) (sym g) (s.below k i kl d)
        | inr d ↦
            let z : length t.starts ≡ i = omega (arith, il, d, length_push t.starts n) in
            let f : get_or (t.starts ++ n ∷ []) i 0 ≡ n = get_or_at t.starts n [] 0 i z in
            let g : take (get_or (t.starts ++ n ∷ []) i 0) (t.literals ++ l ∷ []) ≡ t.literals = ap (λ (m : ℕ). take m (t.literals ++ l ∷ [])) f
            ∙ early n (omega arith) ∙ take_all n t.literals (omega arith) in
            subst (λ (xs : List ℕ). Guards xs xs (at cs k)) (sym g) (now k kl)
      ];
      last = λ k kl x wx fx. has_true-push t.literals l (at cs k)
          (s.last k kl x wx (subst (λ (xs : List ℕ). Contains xs (opposite_of x)) (early t.propagated (omega (arith, e))) fx));
    }

pub reasoned-decided : (t : Trail) (cs : List Clause) → IsTrail t → AreReasoned t cs → (l : ℕ) → AreReasoned (decided t l) cs
reasoned-decided t cs u s l p h =
    let n : ℕ = length t.literals in
    elim (cases_lt p n) [
      | inl f ↦
          let e0 : get_or (t.reasons ++ None ∷ []) p None ≡ get_or t.reasons p None =
          get_or_append_left t.reasons (None ∷ []) None p (omega (arith, u.reasons_fit)) in
          let e1 : take p (t.literals ++ l ∷ []) ≡ take p t.literals = take-append-le p t.literals (l ∷ []) (omega arith) in
          let e2 : get_or (t.literals ++ l ∷ []) p 0 ≡ get_or t.literals p 0 = get_or_append_left t.literals (l ∷ []) 0 p f in
          subst (λ (o : Option ℕ). MatchOption o (BeginsAt (decided t l) p)
          (IsReason cs (take p (t.literals ++ l ∷ [])) (get_or (t.literals ++ l ∷ []) p 0))) (sym e0)
          (match-map (BeginsAt t p) (BeginsAt (decided t l) p) (IsReason cs (take p t.literals) (get_or t.literals p 0))
          (IsReason cs (take p (t.literals ++ l ∷ [])) (get_or (t.literals ++ l ∷ []) p 0)) (get_or t.reasons p None)
          (λ b. record {
            level = b.level;
            within = omega (arith, b.within, length_push t.starts n);
            there =
                get_or_append_left t.starts (n ∷ []) 0 b.level b.within ∙ b.there;
          })
          (λ k r. subst (λ (xs : List ℕ). IsReason cs xs (get_or (t.literals ++ l ∷ []) p 0) k) (sym e1)
          (subst (λ (x : ℕ). IsReason cs (take p t.literals) x k) (sym e2) r))
          (s p f))
      | inr f ↦
          let e : p ≡ n = omega (arith, h, length_push t.literals l) in
          let e0 : get_or (t.reasons ++ None ∷ []) p None ≡ None = get_or_at t.reasons None [] None p (u.reasons_fit ∙ sym e) in
          subst (λ (o : Option ℕ). MatchOption o (BeginsAt (decided t l) p)
          (IsReason cs (take p (t.literals ++ l ∷ [])) (get_or (t.literals ++ l ∷ []) p 0))) (sym e0)
          (record { level = length t.starts; within = omega (arith, length_push t.starts n); there = get_or_at t.starts n [] 0 (length t.starts) refl ∙ sym e })
    ]

pub sound-decided : (t : Trail) (cs : List Clause) (ws : List (List Watch)) → AreConsistent t cs ws → t.propagated ≡ length t.literals → (l : ℕ)
    → IsTrail (decided t l) → AreConsistent (decided t l) cs ws
sound-decided t cs ws s e l u = record {
  lawful = u;
  linked = record { lists = s.linked.lists; clauses = s.linked.clauses; entries = s.linked.entries; watching = s.linked.watching };
  guarded = guarded-decided t cs s.lawful s.guarded e l;
  reasoned = reasoned-decided t cs s.lawful s.reasoned l;
}

pub descends-propagates : (t : Trail) (cs : List Clause) (u : Trail) (ds : List Clause) (us : List (List Watch)) (v : Trail) (es : List Clause)
    (vs : List (List Watch)) → Descends t cs u ds us → Propagates u ds v es vs → Descends t cs v es vs
descends-propagates t cs u ds us v es vs a b = record {
  sound = b.sound;
  same = record { count = b.same.count ∙ a.same.count; literals = λ k. b.same.literals k ∙ a.same.literals k; kept = λ k. b.same.kept k ∙ a.same.kept k };
  variables = b.extends.variables ∙ a.variables;
  literals = sym (take-take (length t.literals) (length u.literals) v.literals a.longer) ∙ ap (take (length t.literals)) b.extends.literals ∙ a.literals;
  longer = omega (arith, a.longer, b.extends.longer);
  rooted = λ r. rooted-same u ds us v es vs a.sound b.sound b.same (root-extends u v b.extends) (a.rooted r);
}

pub descends-decided : (t : Trail) (cs : List Clause) (u : Trail) (ds : List Clause) (us : List (List Watch)) → Descends t cs u ds us
    → u.propagated ≡ length u.literals → (l : ℕ) → IsTrail (decided u l) → Descends t cs (decided u l) ds us
descends-decided t cs u ds us a e l w = record {
  sound = sound-decided u ds us a.sound e l w;
  same = a.same;
  variables = a.variables;
  literals = take-append-le (length t.literals) u.literals (l ∷ []) a.longer ∙ a.literals;
  longer = omega (arith, a.longer, length_push u.literals l);
  rooted = λ r k kl kept f. root-decided u l (at ds k).first (a.rooted r k kl kept f);
}
