-- A full trail satisfies all kept clauses.
use Rattle.std.proofs.Common.{◌≡◌, ℕ, zero, suc, ◌*◌, ◌/◌, ◌<◌, ◌⊎◌, true, List, [], ◌∷◌, length, ℤ, Option, Some, None, inl, inr, refl, ◌∙◌, ap, subst, arith}
use Rattle.std.specs.Prelude.{Contains, slice_get, IfSome}
use Rattle.std.proofs.lemmas.Bool.{cases_eq, and_from, or_left, or_right}
use Rattle.cnf_core.specs.Clauses.{Valuation, literal_true, clause_true, satisfies, value_in}
use Rattle.cdcl_literals.specs.Literals.{opposite_of}
use Rattle.cdcl_trail.specs.Trail.{Trail, IsOpen}
use Rattle.cdcl_literals.proofs.Opposites.{opposite_of-cases, opposite_of-opposite_of}
use Rattle.cdcl_learn.specs.cdcl_clauses.Clauses.{at}
use Rattle.cdcl_learn.specs.cdcl_clauses.Invariants.{IsClause}
use Rattle.std.proofs.lemmas.List.Elements.{All-contains}
use Rattle.cdcl_lines.specs.Literals.{literal_of}
use Rattle.cdcl_lines.specs.Keeping.{as_kept}
use Rattle.cdcl_lines.specs.Models.{FullSatisfies}
use Rattle.cdcl_lines.proofs.Members.{contains-here, contains-there, contains-cases, contains-none, contains-map}
use Rattle.cdcl_lines.proofs.Freshness.{watched-true, some-kept}
use Rattle.cdcl_steps.proofs.cdcl_propagate.Links.{watches-first}
use Rattle.cdcl_lines.proofs.Representing.{kept-within}

clause-true : (v : Valuation) (c : List ℤ) (z : ℤ) → Contains c z → literal_true v z ≡ true → clause_true v c ≡ true
clause-true v [] z m h = absurd (contains-none z m)
clause-true v (x ∷ c) z m h =
    elim (contains-cases x c z m) [
      | inl e ↦ or_left (literal_true v x) (clause_true v c) (ap (literal_true v) e ∙ h)
      | inr k ↦ or_right (literal_true v x) (clause_true v c) (clause-true v c z k h)
    ]

all-true : (v : Valuation) (cs : List (List ℤ)) → ((k : ℕ) → IfSome (slice_get cs k) (λ c. clause_true v c ≡ true)) → satisfies v cs ≡ true
all-true v [] h = refl
all-true v (c ∷ cs) h = and_from (clause_true v c) (satisfies v cs) (h zero) (all-true v cs (λ k. h (suc k)))

if-some : (o : Option (List ℤ)) (P Q : List ℤ → Type 0) → ((c : List ℤ) → P c → Q c) → IfSome o P → IfSome o Q
if-some None P Q f h = tt
if-some (Some c) P Q f h = f c h

there-or-not : (xs : List ℕ) (x : ℕ) → Contains xs x ⊎ (Contains xs x → ⊥)
there-or-not [] x = inr (contains-none x)
there-or-not (y ∷ xs) x =
    elim (cases_eq y x) [
      | inl e ↦ inl (subst (λ (z : ℕ). Contains (y ∷ xs) z) e (contains-here y xs))
      | inr e ↦ elim (there-or-not xs x) [
        | inl h ↦ inl (contains-there y xs x h)
        | inr h ↦ inr (λ m. elim (contains-cases y xs x m) [ inl f ↦ e f | inr g ↦ h g ])
      ]
    ]

-- the variable of an open literal is open
even-open : (t : Trail) (x : ℕ) → IsOpen t x → IsOpen t (2 * (x / 2))
even-open t x o =
    elim (opposite_of-cases x) [
      | inl e ↦ (let f : x ≡ 2 * (x / 2) = omega (arith, e.0) in subst (λ (y : ℕ). IsOpen t y) f o)
      | inr e ↦
          let f : opposite_of x ≡ 2 * (x / 2) = omega (arith, e.0, e.1) in
          subst (λ (y : ℕ). IsOpen t y) f (record {
            not_true = o.not_false;
            not_false = λ h. o.not_true (subst (λ (y : ℕ). Contains t.literals y) (opposite_of-opposite_of x) h);
          })
    ]

pub full-satisfies : FullSatisfies
full-satisfies t cs ws clauses values s full p keeps agrees =
    all-true (value_in values) clauses
    (λ k. if-some (slice_get clauses k) (λ c. as_kept (at cs k) ≡ Some c) (λ c. clause_true (value_in values) c ≡ true)
    (λ c e.
    let d = some-kept cs k c (at cs k).kept refl e in
    let x : ℕ = (at cs d.index).first in
    let kl : d.index < length cs = kept-within cs d.index d.kept in
    let i : IsClause t.variables (at cs d.index) = s.linked.clauses d.index kl d.kept in
    let finish : (l : ℕ) → Contains (at cs d.index).literals l → Contains t.literals l → clause_true (value_in values) c ≡ true = λ l m n.
    clause-true (value_in values) c (literal_of l)
    (subst (λ (xs : List ℤ). Contains xs (literal_of l)) d.same (contains-map literal_of (at cs d.index).literals l m))
    (agrees.same l n) in
    elim (there-or-not t.literals x) [
      | inl m ↦ finish x i.first_in m
      | inr m ↦ elim (there-or-not t.literals (opposite_of x)) [
        | inl f ↦ (let v = watched-true t cs ws s p d.index x kl (watches-first (at cs d.index) d.kept) f in finish v.literal v.in_clause v.is_true)
        | inr f ↦
            let b : x < 2 * t.variables = All-contains (λ l. l < 2 * t.variables) (at cs d.index).literals x i.within i.first_in in
            absurd (full (x / 2) (omega arith) (even-open t x (record { not_true = m; not_false = f })))
      ]
    ])
    (keeps k))
