-- Words of variables.
use Rattle.std.proofs.Common.{◌≡◌, ℕ, zero, suc, ◌+◌, ◌-◌, ◌*◌, ◌/◌, ◌^◌, ◌<◌, ◌≤◌, List, [], ◌∷◌, ℤ, pos, refl, ap, sym, ◌∙◌, subst, arith, length, get_or}
use Rattle.std.specs.Prelude.{◌%◌}
use Rattle.std.specs.Int.{bit_at}
use Rattle.std.specs.List.{All}
use Rattle.std.proofs.lemmas.List.FromFn.{fill_by_all}
use Rattle.std.proofs.lemmas.List.Elements.{All-nil, All-cons}
use Rattle.std.proofs.lemmas.Nat.Bits.{bit_at_lowest, bit_at-suc}
use Rattle.cnf_core.specs.Clauses.{Valuation, literal_true}
use Rattle.cnf_core.specs.Gates.{Agree}
use Rattle.bit_gates.specs.Laws.{IsOf}
use Rattle.bit_words.specs.Laws.{digit, value}
use Rattle.bit_arith.proofs.Values.{value_below, twice_pow}
use Rattle.bit_order.specs.Layouts.{word_from}

pub word_none : (first : ℕ) → word_from first 0 ≡ []
unfolding word_from
word_none first = refl

pub word_suc : (first n : ℕ) → word_from first (suc n) ≡ pos (first + n) ∷ word_from first n
unfolding word_from
word_suc first n = refl

pub length_word : (first n : ℕ) → length (word_from first n) ≡ n
length_word first zero = ap length (word_none first)
length_word first (suc n) = ap length (word_suc first n) ∙ ap suc (length_word first n)

-- each literal, from the lowest bit on
pub word_at : (first n k : ℕ) (d : ℤ) → k < n → get_or (word_from first n) k d ≡ pos (first + (n - 1 - k))
word_at first zero k d h = absurd (omega (arith, h))
word_at first (suc n) zero d h =
    let e : first + n ≡ first + (suc n - 1 - 0) = omega arith in ap (λ w. get_or w 0 d) (word_suc first n) ∙ ap pos e
word_at first (suc n) (suc k) d h =
    let e : first + (n - 1 - k) ≡ first + (suc n - 1 - suc k) = omega arith in
    ap (λ w. get_or w (suc k) d) (word_suc first n) ∙ word_at first n k d (omega (arith, h)) ∙ ap pos e

pub word_filled : (xs : List ℤ) (first n : ℕ) (d : ℤ) → length xs ≡ n → ((k : ℕ) → k < n → get_or xs k d ≡ pos (first + (n - 1 - k))) → xs ≡ word_from first n
word_filled xs first n d long each =
    let f : ℕ → ℤ = λ k. pos (first + (n - 1 - k)) in
    fill_by_all f xs n d long each ∙ sym (fill_by_all f (word_from first n) n d (length_word first n) (λ k h. word_at first n k d h))

-- the literals are variables from the first on
pub word_within : (first n vars : ℕ) → 0 < first → first + n ≤ vars + 1 → All (IsOf vars) (word_from first n)
word_within first zero vars h k = subst (All (IsOf vars)) (sym (word_none first)) (All-nil (IsOf vars))
word_within first (suc n) vars h k =
    subst (All (IsOf vars)) (sym (word_suc first n))
    (All-cons (IsOf vars) (pos (first + n)) (word_from first n) (omega (arith, h), omega (arith, k)) (word_within first n vars h (omega (arith, k))))

pub variable_value : (w : Valuation) (k : ℕ) → 0 < k → literal_true w (pos k) ≡ w k
variable_value w zero h = absurd (omega (arith, h))
variable_value w (suc k) h = refl

pub value_none : (w : Valuation) (first : ℕ) → value w (word_from first 0) ≡ 0
value_none w first = ap (value w) (word_none first)

-- one more bit, below the others
pub value_suc : (w : Valuation) (first n : ℕ) → 0 < first → value w (word_from first (suc n)) ≡ digit (w (first + n)) + 2 * value w (word_from first n)
value_suc w first n h =
    ap (value w) (word_suc first n) ∙ ap (λ b. digit b + 2 * value w (word_from first n)) (variable_value w (first + n) (omega (arith, h)))

pub value_more : (w : Valuation) (first n : ℕ) → 0 < first → value w (word_from first (n + 1)) ≡ 2 * value w (word_from first n) + digit (w (first + n))
value_more w first n h = let s : n + 1 ≡ suc n = omega arith in ap (λ k. value w (word_from first k)) s ∙ value_suc w first n h ∙ omega arith

pub word_below : (w : Valuation) (first n : ℕ) → value w (word_from first n) < 2 ^ n
word_below w first n = subst (λ k. value w (word_from first n) < 2 ^ k) (length_word first n) (value_below w (word_from first n))

-- a word has the same number in values that agree on its variables
pub value_agrees : (v w : Valuation) (first n vars : ℕ) → Agree vars v w → 0 < first → first + n ≤ vars + 1
    → value v (word_from first n) ≡ value w (word_from first n)
value_agrees v w first zero vars a h k = value_none v first ∙ sym (value_none w first)
value_agrees v w first (suc n) vars a h k =
    value_suc v first n h ∙ ap (λ b. digit b + 2 * value v (word_from first n)) (a (first + n) (omega (arith, k)))
    ∙ ap (λ m. digit (w (first + n)) + 2 * m) (value_agrees v w first n vars a h (omega (arith, k))) ∙ sym (value_suc w first n h)

-- variables with a number's bits, the highest first, form a word of that number
pub value_of_bits : (w : Valuation) (first n m : ℕ) → 0 < first → m < 2 ^ n → ((k : ℕ) → k < n → digit (w (first + k)) ≡ bit_at m (n - 1 - k))
    → value w (word_from first n) ≡ m
value_of_bits w first zero m h small bits = value_none w first ∙ omega (arith, small)
value_of_bits w first (suc n) m h small bits =
    let p : 2 ^ suc n ≡ 2 * 2 ^ n = twice_pow n in
    let low : digit (w (first + n)) ≡ m % 2 =
    bits n (omega arith) ∙ ap (bit_at m) (let e : suc n - 1 - n ≡ 0 = omega arith in e) ∙ bit_at_lowest m in
    let high : value w (word_from first n) ≡ m / 2 = value_of_bits w first n (m / 2) h (omega (arith, small, p))
    (λ k less. bits k (omega (arith, less)) ∙ ap (bit_at m) (let e : suc n - 1 - k ≡ suc (n - 1 - k) = omega (arith, less) in e) ∙ bit_at-suc m (n - 1 - k)) in
    value_suc w first n h ∙ omega (arith, low, high)
