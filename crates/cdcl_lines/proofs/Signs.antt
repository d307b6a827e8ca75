-- A search's literal for a formula's literal, and back.
use Rattle.std.proofs.Common.{◌≡◌, ℕ, suc, ◌+◌, ◌/◌, ◌%◌, ℤ, pos, negsuc, inl, inr, sym, ◌∙◌, ap, arith}
use Rattle.std.specs.Prelude.{◌<ℤ◌}
use Rattle.std.proofs.lemmas.Bool.{cases_eq}
use Rattle.std.proofs.lemmas.Int.{ints}
use Rattle.cnf_core.specs.Clauses.{var_of}
use Rattle.cdcl_lines.specs.Literals.{literal_of, code_of}
use Rattle.cdcl_lines.proofs.Numbers.{even-literal, odd-literal, code-literal}

not-below : (n : ℕ) → pos n <ℤ pos 0 → ⊥
not-below n h = grind (arith, ints)

pub literal-from : (z : ℤ) (l : ℕ) → var_of z ≡ l / 2 + 1 → (z <ℤ pos 0 → l % 2 ≡ 1) → (l % 2 ≡ 1 → z <ℤ pos 0) → z ≡ literal_of l
literal-from (pos n) l v f g =
    elim (cases_eq (l % 2) 1) [
      | inl e ↦ absurd (not-below n (g e))
      | inr e ↦ (let w : n ≡ suc (l / 2) = omega (arith, v) in ap pos w ∙ sym (even-literal l (omega (arith, e))))
    ]
literal-from (negsuc n) l v f g = let w : n ≡ l / 2 = omega (arith, v) in ap negsuc w ∙ sym (odd-literal l (f (record { lt = tt })))

pub code-from : (z : ℤ) (l : ℕ) → z ≡ literal_of l → l ≡ code_of z
code-from z l e = sym (code-literal l) ∙ ap code_of (sym e)
