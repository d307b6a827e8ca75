-- The highest literal of a word.
use Rattle.std.proofs.Common.{◌≡◌, false, ℕ, suc, ◌+◌, ◌-◌, ◌<◌, ◌≤◌, List, [], ◌∷◌, ◌++◌, ℤ, neg_ℤ, refl, ap, sym, ◌∙◌, arith, length, take, drop, set, get_or}
use Rattle.std.specs.List.{All}
use Rattle.std.proofs.lemmas.List.{drop_all, get_or_default, take_more_set, take_all, length-set, length-take, length-append}
use Rattle.std.proofs.lemmas.List.Elements.{All-nil, All-cons, All-take, All-append, All-get_or}
use Rattle.cnf_core.specs.Clauses.{var_of}
use Rattle.bit_gates.specs.Folded.{constant}
use Rattle.bit_gates.proofs.Blocks.{var_of-opposite}
use Rattle.bit_words.specs.Words.{AreWithin}
use Rattle.bit_divide.specs.bit_shift.Shifts.{top}
use Rattle.bit_signed.specs.Signed.{with_sign_inverted}

pub top_is : (xs : List ℤ) (n : ℕ) (x : ℤ) → 0 < n → length xs ≡ n → x ≡ get_or xs (n - 1) x → x ≡ top xs
top_is xs n x some e h =
    h ∙ get_or_default xs (n - 1) x (constant false) (omega (arith, some, e)) ∙ ap (λ k. get_or xs (k - 1) (constant false)) (sym e)

pub top_within : (n : ℕ) (xs : List ℤ) → 0 < length xs → AreWithin n xs → var_of (top xs) ≤ n
top_within n xs some h = All-get_or (λ l. var_of l ≤ n) xs (length xs - 1) (constant false) (omega (arith, some)) h

pub biased_is : (xs : List ℤ) (n : ℕ) (x : ℤ) → 0 < n → length xs ≡ n → x ≡ get_or xs (n - 1) x → set xs (n - 1) (neg_ℤ x) ≡ with_sign_inverted xs
biased_is xs n x some e h =
    let i : ℕ = n - 1 in
    let short : i < length xs = omega (arith, some, e) in
    let all : take (i + 1) (set xs i (neg_ℤ x)) ≡ set xs i (neg_ℤ x) =
    take_all (i + 1) (set xs i (neg_ℤ x)) (omega (arith, length-set xs i (neg_ℤ x), some, e)) in
    sym all ∙ take_more_set xs i (neg_ℤ x) short ∙ ap (λ k. take i xs ++ neg_ℤ k ∷ []) (top_is xs n x some e h)
    ∙ ap (λ k. take (k - 1) xs ++ neg_ℤ (top xs) ∷ []) (sym e)

pub biased_length : (xs : List ℤ) → 0 < length xs → length (with_sign_inverted xs) ≡ length xs
biased_length xs some = length-append (take (length xs - 1) xs) (neg_ℤ (top xs) ∷ []) ∙ omega (arith, some, length-take (length xs - 1) xs)

pub biased_are : (P : ℤ → Type 0) (xs : List ℤ) → P (neg_ℤ (top xs)) → All P xs → All P (with_sign_inverted xs)
biased_are P xs t h =
    All-append P (take (length xs - 1) xs) (neg_ℤ (top xs) ∷ []) (All-take P (length xs - 1) xs h) (All-cons P (neg_ℤ (top xs)) [] t (All-nil P))

pub biased_within : (n : ℕ) (xs : List ℤ) → 0 < length xs → AreWithin n xs → AreWithin n (with_sign_inverted xs)
biased_within n xs some h =
    let e : var_of (neg_ℤ (top xs)) ≡ var_of (top xs) = var_of-opposite (top xs) in
    biased_are (λ l. var_of l ≤ n) xs (omega (arith, e, top_within n xs some h)) h
