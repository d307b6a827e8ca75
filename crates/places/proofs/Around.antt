-- Which loops are around an instruction.
use Rattle.std.proofs.Common.{◌≡◌, inl, inr, ℕ, zero, suc, ◌≤◌, List, [], ◌∷◌, true, false, ◌==◌, Option, Some, None, refl, ap, sym, subst, arith, slice_get}
use Rattle.std.proofs.lemmas.Bool.{cases_Bool, eqb-true, eq-eqb, false≢true}
use Rattle.std.proofs.lemmas.Option.{none-some, same_Some}
use Rattle.std.specs.Option.{option_map_or}
use Rattle.tc_code.specs.Lawful.{target}
use Rattle.tc_code.specs.declared.instr.Instr.{Instr}
use Rattle.places.specs.Places.{jumps_to, is_around}

-- an instruction at or after `at` that may jump to `first`
pub record Closes (is : List Instr) (at first : ℕ) : Type 0 where
  pub last : ℕ
  pub instr : Instr
  pub there : slice_get is last ≡ Some instr
  pub behind : at ≤ last
  pub back : target instr ≡ Some first

named : (o : Option ℕ) (first : ℕ) → option_map_or (λ to. to == first) o false ≡ true → o ≡ Some first
named None first e = absurd (false≢true e)
named (Some to) first e = ap Some (eqb-true to first e)

further : (i : Instr) (is : List Instr) (at first : ℕ) → Closes is at first → Closes (i ∷ is) (suc at) first
further i is at first c = record { last = suc c.last; instr = c.instr; there = c.there; behind = omega (arith, c.behind); back = c.back }

later : (i : Instr) (is : List Instr) (first : ℕ) → Closes is 0 first → Closes (i ∷ is) 0 first
later i is first c = record { last = suc c.last; instr = c.instr; there = c.there; behind = omega arith; back = c.back }

-- a loop that is around an instruction is closed behind it
pub closed : (is : List Instr) (at first : ℕ) → is_around is at first ≡ true → Closes is at first
closed [] zero first e = absurd (false≢true e)
closed [] (suc at) first e = absurd (false≢true e)
closed (i ∷ is) zero first e =
    elim (cases_Bool (jumps_to first i)) [
      | inl t ↦ record { last = 0; instr = i; there = refl; behind = omega arith; back = named (target i) first t }
      | inr f ↦ later i is first (closed is zero first (rw f at e))
    ]
closed (i ∷ is) (suc at) first e = further i is at first (closed is at first e)

-- a jump back over an instruction closes a loop that is around it
pub around : (is : List Instr) (at first last : ℕ) (i : Instr) → slice_get is last ≡ Some i → at ≤ last → target i ≡ Some first
    → is_around is at first ≡ true
around [] at first last i there behind back = absurd (none-some i there)
around (j ∷ is) zero first zero i there behind back =
    let same : j ≡ i = same_Some j i there in
    let jumps : jumps_to first j ≡ true = subst (λ k. jumps_to first k ≡ true) (sym same) (rw back (eq-eqb first first refl)) in
    rw jumps refl
around (j ∷ is) zero first (suc last) i there behind back =
    let rest : is_around is zero first ≡ true = around is zero first last i there (omega arith) back in
    elim (cases_Bool (jumps_to first j)) [ inl t ↦ rw t refl | inr f ↦ rw f rest ]
around (j ∷ is) (suc at) first zero i there behind back = absurd (omega (arith, behind))
around (j ∷ is) (suc at) first (suc last) i there behind back = around is at first last i there (omega (arith, behind)) back
