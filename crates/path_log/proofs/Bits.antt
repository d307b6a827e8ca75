-- The bits of a byte, by trying each byte.
use Rattle.std.proofs.Common.{◌≡◌, ◌<◌, ℕ, zero, suc, Bool, true, ◌&&◌, not, List, [], ◌∷◌, refl, ap, ◌∙◌, arith, inl, inr}
use Rattle.std.specs.Prelude.{bit_and, ◌==◌}
use Rattle.std.specs.Bool.{beq}
use Rattle.std.specs.Cmp.{booleans_Decides}
use Rattle.std.specs.Cmp.Lexicographic.{pointwise, pointwise_decides}
use Rattle.std.proofs.lemmas.Bool.{and_parts, cases_lt}
use Rattle.path_log.specs.Fields.{bits_of}

all_below : (ℕ → Bool) → ℕ → Bool
all_below p zero = true
all_below p (suc n) = p n && all_below p n

-- the bits that the masks give for a byte
abbrev masked : ℕ → List Bool
masked b =
    not (bit_and b 128 == 0) ∷ not (bit_and b 64 == 0) ∷ not (bit_and b 32 == 0) ∷ not (bit_and b 16 == 0)
    ∷ not (bit_and b 8 == 0) ∷ not (bit_and b 4 == 0) ∷ not (bit_and b 2 == 0) ∷ not (bit_and b 1 == 0) ∷ []

each_byte : all_below (λ b. pointwise beq (masked b) (bits_of 8 b)) 256 ≡ true
unfolding all_below
each_byte = refl

at_each : (p : ℕ → Bool) (n k : ℕ) → all_below p n ≡ true → k < n → p k ≡ true
unfolding all_below
at_each p zero k h lt = absurd (omega arith)
at_each p (suc n) k h lt =
    let parts = and_parts (p n) (all_below p n) h in
    elim (cases_lt k n) [
      | inl less ↦ at_each p n k parts.1 less
      | inr least ↦ let same : k ≡ n = omega arith in ap p same ∙ parts.0
    ]

pub masks_are_bits : (b : ℕ) → b < 256 → masked b ≡ bits_of 8 b
masks_are_bits b lt = (pointwise_decides booleans_Decides (masked b) (bits_of 8 b)).0 (at_each (λ b. pointwise beq (masked b) (bits_of 8 b)) 256 b each_byte lt)
