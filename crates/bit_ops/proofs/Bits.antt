-- The bits of words' numbers.
use Rattle.std.proofs.Common.{◌≡◌, ℕ, suc, zero, ◌+◌, ◌*◌, ◌/◌, ◌^◌, ◌<◌, ◌≤◌, min, max, List, [], ◌∷◌, ℤ, refl, ap, sym, ◌∙◌, arith, Bool, true, false, not, length, get_or}
use Rattle.std.specs.Prelude.{◌%◌, ◌&&◌, ◌||◌, ◌==◌, bit_and, bit_or, bit_xor}
use Rattle.std.specs.Int.{bit_at}
use Rattle.std.specs.List.{list_any}
use Rattle.std.specs.Int.Bits.{and_lt}
use Rattle.std.proofs.Math.Nat.{zero-div, div-div-eq-div-mul}
use Rattle.std.proofs.lemmas.Nat.{or_lt, xor_lt}
use Rattle.std.proofs.lemmas.Nat.Bits.{bit_at_lowest, bit_at_and, bit_at_or, bit_at_xor, same_from_bits_below}
use Rattle.std.proofs.lemmas.Bool.Decides.{nat_tests}
use Rattle.cnf_core.specs.Clauses.{Valuation, literal_true}
use Rattle.cnf_core.specs.Gates.{gate_value}
use Rattle.cnf_core.specs.declared.gates.Gate.{Gate}
use Rattle.cnf_core.specs.declared.gates.Gate.TheVariants.{And, Or, Xor}
use Rattle.bit_words.specs.Laws.{values, digit, number_of, value, at_places}
use Rattle.bit_arith.proofs.Values.{digit_small, twice_pow}

lowest : (p : Bool) (n : ℕ) → bit_at (digit p + 2 * n) 0 ≡ digit p
lowest p n = let d : digit p ≤ 1 = digit_small p in bit_at_lowest (digit p + 2 * n) ∙ omega (arith, d)

above : (p : Bool) (n i : ℕ) → bit_at (digit p + 2 * n) (suc i) ≡ bit_at n i
above p n i =
    let d : digit p ≤ 1 = digit_small p in
    let h : (digit p + 2 * n) / 2 ≡ n = omega (arith, d) in
    ap (λ k. (digit p + 2 * n) / k % 2) (twice_pow i) ∙ ap (λ k. k % 2) (sym (div-div-eq-div-mul (digit p + 2 * n) 2 (2 ^ i)))
    ∙ ap (λ k. k / 2 ^ i % 2) h

-- the bit at a place is the value there
bit_there : (ps : List Bool) (i : ℕ) → bit_at (number_of ps) i ≡ digit (get_or ps i false)
bit_there [] i = ap (λ k. k % 2) (zero-div (2 ^ i))
bit_there (p ∷ ps) zero = lowest p (number_of ps)
bit_there (p ∷ ps) (suc i) = above p (number_of ps) i ∙ bit_there ps i

place_there : (op : Bool → Bool → Bool) (ps qs : List Bool) (i : ℕ) → length qs ≡ length ps → i < length ps
    → get_or (at_places op ps qs) i false ≡ op (get_or ps i false) (get_or qs i false)
place_there op [] qs i e h = absurd (omega (arith, h))
place_there op (p ∷ ps) [] i e h = absurd (omega (arith, e))
place_there op (p ∷ ps) (q ∷ qs) zero e h = refl
place_there op (p ∷ ps) (q ∷ qs) (suc i) e h = place_there op ps qs i (omega (arith, e)) (omega (arith, h))

-- an operator of bits on two numbers, place by place
module _ (op : Bool → Bool → Bool) (on_bits on_numbers : ℕ → ℕ → ℕ)
    (digits : (p q : Bool) → digit (op p q) ≡ on_bits (digit p) (digit q))
    (bits : (a b i : ℕ) → bit_at (on_numbers a b) i ≡ on_bits (bit_at a i) (bit_at b i))
    (below : (a b : ℕ) → a < 2 ^ 32 → b < 2 ^ 32 → on_numbers a b < 2 ^ 32)
  where
    by_places : (ps qs : List Bool) → length ps ≡ 32 → length qs ≡ 32 → number_of ps < 2 ^ 32 → number_of qs < 2 ^ 32
        → number_of (at_places op ps qs) < 2 ^ 32 → number_of (at_places op ps qs) ≡ on_numbers (number_of ps) (number_of qs)
    by_places ps qs e f hp hq hr =
        same_from_bits_below 32 (number_of (at_places op ps qs)) (on_numbers (number_of ps) (number_of qs)) hr (below (number_of ps) (number_of qs) hp hq)
        (λ i less. bit_there (at_places op ps qs) i ∙ ap digit (place_there op ps qs i (f ∙ sym e) (omega (arith, less, e)))
        ∙ digits (get_or ps i false) (get_or qs i false) ∙ ap (λ k. on_bits k (digit (get_or qs i false))) (sym (bit_there ps i))
        ∙ ap (λ k. on_bits (bit_at (number_of ps) i) k) (sym (bit_there qs i)) ∙ sym (bits (number_of ps) (number_of qs) i))

and_digits : (p q : Bool) → digit (p && q) ≡ min (digit p) (digit q)
and_digits true true = refl
and_digits true false = refl
and_digits false true = refl
and_digits false false = refl

or_digits : (p q : Bool) → digit (p || q) ≡ max (digit p) (digit q)
or_digits true true = refl
or_digits true false = refl
or_digits false true = refl
or_digits false false = refl

xor_digits : (p q : Bool) → digit (gate_value Xor p q) ≡ (digit p + digit q) % 2
xor_digits true true = refl
xor_digits true false = refl
xor_digits false true = refl
xor_digits false false = refl

-- a gate's operator on numbers
abbrev pub gate_number : Gate → ℕ → ℕ → ℕ
gate_number And a b = bit_and a b
gate_number Or a b = bit_or a b
gate_number Xor a b = bit_xor a b

pub gate_places : (g : Gate) (ps qs : List Bool) → length ps ≡ 32 → length qs ≡ 32 → number_of ps < 2 ^ 32 → number_of qs < 2 ^ 32
    → number_of (at_places (gate_value g) ps qs) < 2 ^ 32 → number_of (at_places (gate_value g) ps qs) ≡ gate_number g (number_of ps) (number_of qs)
gate_places And = by_places (gate_value And) min bit_and and_digits bit_at_and (λ a b p q. and_lt 32 a b p q)
gate_places Or = by_places (gate_value Or) max bit_or or_digits bit_at_or (λ a b p q. or_lt 32 a b p q)
gate_places Xor = by_places (gate_value Xor) (λ a b. (a + b) % 2) bit_xor xor_digits bit_at_xor (λ a b p q. xor_lt 32 a b p q)

-- whether a value of a word is true
pub some_number : (w : Valuation) (xs : List ℤ) → list_any (literal_true w) xs ≡ not (value w xs == 0)
some_number w [] = refl
some_number w (x ∷ xs) = here (literal_true w x) (list_any (literal_true w) xs) (value w xs) (some_number w xs)
  where
    here : (p r : Bool) (n : ℕ) → r ≡ not (n == 0) → (p || r) ≡ not (digit p + 2 * n == 0)
    here true r n h = grind (arith, nat_tests)
    here false r n h = h ∙ grind (arith, nat_tests)

any_values : (w : Valuation) (xs : List ℤ) → list_any (literal_true w) xs ≡ list_any (λ p. p) (values w xs)
any_values w [] = refl
any_values w (x ∷ xs) = ap (λ k. literal_true w x || k) (any_values w xs)

-- whether two words differ at a place
pub apart_number : (ps qs : List Bool) → length qs ≡ length ps → list_any (λ p. p) (at_places (gate_value Xor) ps qs) ≡ not (number_of ps == number_of qs)
apart_number [] [] e = refl
apart_number [] (q ∷ qs) e = absurd (omega (arith, e))
apart_number (p ∷ ps) [] e = absurd (omega (arith, e))
apart_number (p ∷ ps) (q ∷ qs) e = here p q _ (number_of ps) (number_of qs) (apart_number ps qs (omega (arith, e)))
  where
    here : (p q r : Bool) (n m : ℕ) → r ≡ not (n == m) → (gate_value Xor p q || r) ≡ not (digit p + 2 * n == digit q + 2 * m)
    here true true r n m h = h ∙ grind (arith, nat_tests)
    here true false r n m h = grind (arith, nat_tests)
    here false true r n m h = grind (arith, nat_tests)
    here false false r n m h = h ∙ grind (arith, nat_tests)

pub apart_values : (w : Valuation) (out : List ℤ) (ps qs : List Bool) → length qs ≡ length ps → values w out ≡ at_places (gate_value Xor) ps qs
    → list_any (literal_true w) out ≡ not (number_of ps == number_of qs)
apart_values w out ps qs e h = any_values w out ∙ ap (list_any (λ p. p)) h ∙ apart_number ps qs e
