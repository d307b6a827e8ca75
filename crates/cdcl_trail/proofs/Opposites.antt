-- A literal and its opposite on a trail.
use Rattle.std.proofs.Common.{◌≡◌, ℕ, ◌/◌, ap, sym, ◌∙◌, get_or}
use Rattle.std.specs.Prelude.{Contains}
use Rattle.std.proofs.lemmas.List.{get_or_default}
use Rattle.cdcl_literals.specs.Literals.{opposite_of}
use Rattle.cdcl_literals.proofs.Opposites.{opposite_of-half, opposite_of-apart}
use Rattle.cdcl_trail.specs.Trail.{Trail, IsTrail}

-- a literal and its opposite aren't both on a trail
pub not-both : (t : Trail) → IsTrail t → (l : ℕ) → Contains t.literals l → Contains t.literals (opposite_of l) → ⊥
not-both t u l (i, h, e) (j, k, f) =
    let a : get_or t.literals i 0 ≡ l = get_or_default t.literals i 0 l h ∙ e in
    let b : get_or t.literals j 0 ≡ opposite_of l = get_or_default t.literals j 0 (opposite_of l) k ∙ f in
    let s : i ≡ j = u.apart i j h k (ap (λ (n : ℕ). n / 2) a ∙ sym (opposite_of-half l) ∙ sym (ap (λ (n : ℕ). n / 2) b)) in
    opposite_of-apart l (sym b ∙ ap (λ (n : ℕ). get_or t.literals n 0) (sym s) ∙ a)
