-- Numbers of words.
use Rattle.std.proofs.Common.{◌≡◌, ℕ, suc, zero, ◌+◌, ◌*◌, ◌^◌, ◌<◌, ◌≤◌, List, [], ◌∷◌, ◌++◌, ℤ, refl, ap, sym, ◌∙◌, arith, Bool, true, false, length, take, drop, replicate}
use Rattle.std.specs.Prelude.{◌&&◌, ◌%◌}
use Rattle.std.proofs.Math.Nat.{pow-suc, mul_comm, mul_assoc, mul-add, one-mul, zero-mul, mul-zero, mod-eq_of_lt, add-mul-mod_self_left}
use Rattle.std.proofs.lemmas.List.{take-append-drop, length-take}
use Rattle.cnf_core.specs.Clauses.{Valuation, literal_true}
use Rattle.bit_gates.specs.Folded.{constant}
use Rattle.bit_words.specs.Laws.{values, digit, number_of, value, at_places}

pub digit_small : (b : Bool) → digit b ≤ 1
digit_small true = omega arith
digit_small false = omega arith

pub twice_pow : (n : ℕ) → 2 ^ suc n ≡ 2 * 2 ^ n
twice_pow n = pow-suc 2 n ∙ mul_comm (2 ^ n) 2

pub value_below : (w : Valuation) (xs : List ℤ) → value w xs < 2 ^ length xs
value_below w [] = omega arith
value_below w (x ∷ xs) =
    let h : value w xs < 2 ^ length xs = value_below w xs in
    let d : digit (literal_true w x) ≤ 1 = digit_small (literal_true w x) in
    let e : 2 ^ suc (length xs) ≡ 2 * 2 ^ length xs = twice_pow (length xs) in
    omega (arith, h, d, e)

pub value_append : (w : Valuation) (xs ys : List ℤ) → value w (xs ++ ys) ≡ value w xs + 2 ^ length xs * value w ys
value_append w [] ys = let e : 1 * value w ys ≡ value w ys = one-mul (value w ys) in omega (arith, e)
value_append w (x ∷ xs) ys =
    let h : value w (xs ++ ys) ≡ value w xs + 2 ^ length xs * value w ys = value_append w xs ys in
    let e : 2 ^ suc (length xs) * value w ys ≡ 2 * (2 ^ length xs * value w ys) =
    ap (λ k. k * value w ys) (twice_pow (length xs)) ∙ mul_assoc 2 (2 ^ length xs) (value w ys) in
    omega (arith, h, e)

pub value_split : (w : Valuation) (n : ℕ) (xs : List ℤ) → n ≤ length xs → value w xs ≡ value w (take n xs) + 2 ^ n * value w (drop n xs)
value_split w n xs h =
    ap (value w) (sym (take-append-drop n xs)) ∙ value_append w (take n xs) (drop n xs)
    ∙ ap (λ k. value w (take n xs) + 2 ^ k * value w (drop n xs)) (length-take n xs ∙ omega (arith, h))

pub value_zeros : (w : Valuation) (n : ℕ) → literal_true w (constant false) ≡ false → value w (replicate n (constant false)) ≡ 0
value_zeros w zero h = refl
value_zeros w (suc n) h =
    let r : value w (replicate n (constant false)) ≡ 0 = value_zeros w n h in
    let d : digit (literal_true w (constant false)) ≡ 0 = ap digit h in
    omega (arith, r, d)

-- the only remainder
pub remainder_of : (d c out t : ℕ) → out < d → out + d * c ≡ t → out ≡ t % d
remainder_of d c out t h e = sym (ap (λ k. k % d) (sym e) ∙ add-mul-mod_self_left out d c ∙ mod-eq_of_lt h)

row_digit : (p b : Bool) (u v : ℕ) → u ≡ digit b * v → digit (p && b) + 2 * u ≡ digit b * (digit p + 2 * v)
row_digit true true u v h = let e : 1 * v ≡ v = one-mul v in let f : 1 * (1 + 2 * v) ≡ 1 + 2 * v = one-mul (1 + 2 * v) in omega (arith, h, e, f)
row_digit false true u v h = let e : 1 * v ≡ v = one-mul v in let f : 1 * (0 + 2 * v) ≡ 0 + 2 * v = one-mul (0 + 2 * v) in omega (arith, h, e, f)
row_digit true false u v h = let e : 0 * v ≡ 0 = zero-mul v in let f : 0 * (1 + 2 * v) ≡ 0 = zero-mul (1 + 2 * v) in omega (arith, h, e, f)
row_digit false false u v h = let e : 0 * v ≡ 0 = zero-mul v in let f : 0 * (0 + 2 * v) ≡ 0 = zero-mul (0 + 2 * v) in omega (arith, h, e, f)

-- the number of a word where a bit is true, and 0 otherwise
pub row_value : (w : Valuation) (xs : List ℤ) (b : ℤ) (n : ℕ) → length xs ≡ n
    → number_of (at_places (λ p q. p && q) (values w xs) (values w (replicate n b))) ≡ digit (literal_true w b) * value w xs
row_value w [] b n e = sym (mul-zero (digit (literal_true w b)))
row_value w (x ∷ xs) b zero e = absurd (omega (arith, e))
row_value w (x ∷ xs) b (suc n) e = row_digit (literal_true w x) (literal_true w b) _ (value w xs) (row_value w xs b n (omega (arith, e)))

pub row_number : (b : Bool) (p out c acc t x d : ℕ) → out + p * c ≡ acc + digit b * t → x ≡ t + p * d → out + p * (c + digit b * d) ≡ acc + digit b * x
row_number true p out c acc t x d h e =
    let a : 1 * d ≡ d = one-mul d in
    let s : p * (c + 1 * d) ≡ p * c + p * d = ap (λ k. p * (c + k)) a ∙ mul-add p c d in
    let u : 1 * t ≡ t = one-mul t in
    let v : 1 * x ≡ x = one-mul x in
    omega (arith, h, e, s, u, v)
row_number false p out c acc t x d h e =
    let a : 0 * d ≡ 0 = zero-mul d in
    let s : p * (c + 0 * d) ≡ p * c = ap (λ k. p * k) (omega (arith, a)) in
    let u : 0 * t ≡ 0 = zero-mul t in
    let v : 0 * x ≡ 0 = zero-mul x in
    omega (arith, h, s, u, v)

pub product_number : (m low r high k l word x b rest whole : ℕ) → whole ≡ low + 2 * high → r + 2 ^ m * l ≡ high + x * rest
    → whole + 2 ^ suc m * k ≡ word + b * x → (low + 2 * r) + 2 ^ suc m * (k + l) ≡ word + x * (b + 2 * rest)
product_number m low r high k l word x b rest whole e f h =
    let p : ℕ = 2 ^ m in
    let a : 2 ^ suc m * k ≡ 2 * (p * k) = ap (λ z. z * k) (twice_pow m) ∙ mul_assoc 2 p k in
    let c : 2 ^ suc m * l ≡ 2 * (p * l) = ap (λ z. z * l) (twice_pow m) ∙ mul_assoc 2 p l in
    let s : 2 ^ suc m * (k + l) ≡ 2 ^ suc m * k + 2 ^ suc m * l = mul-add (2 ^ suc m) k l in
    let t : x * (b + 2 * rest) ≡ x * b + x * (2 * rest) = mul-add x b (2 * rest) in
    let u : x * (2 * rest) ≡ 2 * (x * rest) = sym (mul_assoc x 2 rest) ∙ ap (λ z. z * rest) (mul_comm x 2) ∙ mul_assoc 2 x rest in
    let v : x * b ≡ b * x = mul_comm x b in
    omega (arith, a, c, s, t, u, v, e, f, h)
