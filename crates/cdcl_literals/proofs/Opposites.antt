-- A literal and its opposite.
use Rattle.std.proofs.Common.{◌≡◌, ◌≢◌, ℕ, ◌+◌, ◌*◌, ◌/◌, ◌%◌, ◌<◌, ◌⊎◌, inl, inr, arith}
use Rattle.std.proofs.lemmas.Bool.Decides.{nat_tests}
use Rattle.cdcl_literals.specs.Literals.{opposite_of}

pub opposite_of-cases : (l : ℕ) → ((l % 2 ≡ 0) × (opposite_of l ≡ l + 1)) ⊎ ((l % 2 ≡ 1) × (opposite_of l + 1 ≡ l))
opposite_of-cases l = grind (arith, nat_tests)

pub opposite_of-within : (l n : ℕ) → l < 2 * n → opposite_of l < 2 * n
opposite_of-within l n h = elim (opposite_of-cases l) [ inl e ↦ omega (arith, e.0, e.1) | inr e ↦ omega (arith, e.0, e.1) ]

pub opposite_of-half : (l : ℕ) → opposite_of l / 2 ≡ l / 2
opposite_of-half l = elim (opposite_of-cases l) [ inl e ↦ omega (arith, e.0, e.1) | inr e ↦ omega (arith, e.0, e.1) ]

pub opposite_of-apart : (l : ℕ) → opposite_of l ≢ l
opposite_of-apart l = elim (opposite_of-cases l) [ inl e ↦ omega (arith, e.0, e.1) | inr e ↦ omega (arith, e.0, e.1) ]

pub opposite_of-opposite_of : (l : ℕ) → opposite_of (opposite_of l) ≡ l
opposite_of-opposite_of l =
    elim (opposite_of-cases l) [
      | inl e ↦ elim (opposite_of-cases (opposite_of l)) [ inl f ↦ omega (arith, e.0, e.1, f.0, f.1) | inr f ↦ omega (arith, e.0, e.1, f.0, f.1) ]
      | inr e ↦ elim (opposite_of-cases (opposite_of l)) [ inl f ↦ omega (arith, e.0, e.1, f.0, f.1) | inr f ↦ omega (arith, e.0, e.1, f.0, f.1) ]
    ]

-- literals of one variable are the same or opposite
pub same_half : (a b : ℕ) → a / 2 ≡ b / 2 → (a ≡ b) ⊎ (a ≡ opposite_of b)
same_half a b h =
    elim (opposite_of-cases b) [
      | inl e ↦ elim (opposite_of-cases a) [ inl f ↦ inl (omega (arith, e.0, e.1, f.0, f.1)) | inr f ↦ inr (omega (arith, e.0, e.1, f.0, f.1)) ]
      | inr e ↦ elim (opposite_of-cases a) [ inl f ↦ inr (omega (arith, e.0, e.1, f.0, f.1)) | inr f ↦ inl (omega (arith, e.0, e.1, f.0, f.1)) ]
    ]
