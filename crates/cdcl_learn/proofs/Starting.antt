-- The beginning and the end of an analysis.
use Rattle.std.proofs.Common.{◌≡◌, ℕ, ◌<◌, ◌≤◌, Bool, true, false, List, [], length, get_or, replicate, reverse, refl, sym, ◌∙◌, ap, subst, inl, inr, arith}
use Rattle.std.specs.Prelude.{Contains}
use Rattle.std.proofs.lemmas.Bool.{cases_lt}
use Rattle.std.proofs.lemmas.List.{get_or-replicate, get_or_past, length-replicate}
use Rattle.cdcl_literals.specs.Literals.{opposite_of}
use Rattle.cdcl_trail.specs.Trail.{Trail}
use Rattle.cdcl_clauses.specs.Clauses.{Clause, at}
use Rattle.cdcl_clauses.specs.Invariants.{IsConflict}
use Rattle.cdcl_learn.specs.Shown.{Leads}
use Rattle.cdcl_learn.specs.helpers.Analyses.{IsMet, Meets, Suffices, Tallies, IsCleared}
use Rattle.cdcl_learn.proofs.Counting.{open_none, open_some}
use Rattle.cdcl_literals.proofs.Opposites.{opposite_of-half}
use Rattle.cdcl_learn.proofs.Meeting.{met_within}

unmet : (n : ℕ) (met : List Bool) → met ≡ replicate n false → (q : ℕ) → IsMet met q → ⊥
unmet n met e q m =
    let f : get_or (replicate n false) q false ≡ true = ap (λ (xs : List Bool). get_or xs q false) (sym e) ∙ m in
    elim (cases_lt q n) [
      | inl h ↦ (let g : false ≡ true = sym (get_or-replicate n q false false h) ∙ f in cc)
      | inr h ↦ (let g : false ≡ true = sym (get_or_past (replicate n false) q false (omega (arith, length-replicate n false))) ∙ f in cc)
    ]

pub tallies-start : (t : Trail) (met : List Bool) (n root base : ℕ) (ls : List ℕ) → met ≡ replicate n false → n ≡ length t.literals → ls ≡ []
    → Tallies t met 0 root base ls
tallies-start t met n root base ls e f g =
    record {
      size = ap length e ∙ length-replicate n false ∙ f;
      count = sym (open_none met base (λ q bq m. unmet n met e q m));
      taken = λ p rp pb m. absurd (unmet n met e p m);
      from_places = λ x c. absurd (let d : Contains [] x = subst (λ (xs : List ℕ). Contains xs x) g c in omega (arith, d.1));
    }

pub some-start : (t : Trail) (cs : List Clause) (k : ℕ) → IsConflict t cs k → (a b : List Bool) (n root base : ℕ) (ls : List ℕ)
    → Meets t a b (at cs k).literals → Tallies t b n root base ls → base ≤ t.propagated → 0 < n
some-start t cs k c a b n root base ls m s h =
    let p : ℕ = t.propagated in
    let met : IsMet b p = m.all (opposite_of (get_or t.literals p 0)) p c.at_pending c.pending (sym (opposite_of-half (get_or t.literals p 0))) in
    omega (arith, s.count, open_some b base p (met_within b p met refl) h met)

pub shown-closed : (t : Trail) (cs : List Clause) (a b : List Bool) (n root base : ℕ) (ls hs : List ℕ) → Tallies t b n root base ls
    → root ≡ length t.literals → IsCleared a b root → Suffices t cs b hs → Leads cs [] (reverse hs)
shown-closed t cs a b n root base ls hs s e c f =
    f [] (λ x h. absurd (omega (arith, h.1))) (λ p m. absurd (c.none p (omega (arith, met_within b p m s.size, e)) m))
