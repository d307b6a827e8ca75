-- The words that are literals, and the 0 after them.
use Rattle.std.proofs.Common.{◌≡◌, ◌∙◌, ◌<◌, ◌≤◌, ◌^◌, ℕ, zero, suc, Bool, true, false, ◌==◌, List, [], ◌∷◌, ℤ, Option, Some, None, refl, sym, ap, subst, arith}
use Rattle.std.specs.Prelude.{pos, negsuc, codes}
use Rattle.std.specs.Fmt.{decimal, signed_decimal}
use Rattle.std.specs.Option.{option_and_then, option_map}
use Rattle.std.proofs.lemmas.Bool.{and_parts, and_from, eqb-true, leb-true, le-leb, lt-ltb}
use Rattle.std.proofs.lemmas.Bool.Decides.{nat_tests}
use Rattle.std.proofs.lemmas.Fmt.{decimal_digit}
use Rattle.tc_decimal.specs.Decimals.{is_digit, number_of}
use Rattle.tc_decimal.proofs.Decimals.{decimal_cells, number_again, number_is}
use Rattle.dimacs_text.specs.Answers.{is_literal}
use Rattle.dimacs_text.specs.declared.words.Word.{Word}
use Rattle.dimacs_text.specs.declared.words.Word.TheVariants.{Literal, End}
use Rattle.dimacs_text.specs.helpers.Reading.{last_var, negated, plain, word_in}

-- the bytes are those of the word
abbrev pub IsOf : Word → List ℕ → Type 0
IsOf (Literal l) bytes = (is_literal l ≡ true) × (bytes ≡ signed_decimal l)
IsOf End bytes = bytes ≡ codes "0"

small : last_var < 2 ^ 32
small = omega arith

positive : (n : ℕ) → 0 < n → n ≤ last_var → is_literal (pos n) ≡ true
positive n some within = and_from _ _ (lt-ltb 0 n some) (le-leb n last_var within)

negative : (n : ℕ) → suc n ≤ last_var → is_literal (negsuc n) ≡ true
negative n within = and_from _ _ (lt-ltb 0 (suc n) (omega arith)) (le-leb (suc n) last_var within)

some_not_zero : (n : ℕ) → (suc n == 0) ≡ false
some_not_zero n = grind (arith, nat_tests)

plain_some : (n : ℕ) → plain (suc n) ≡ Literal (pos (suc n))
plain_some n = rw (some_not_zero n) refl

negated_some : (n : ℕ) → negated (suc n) ≡ Some (Literal (negsuc n))
negated_some n = rw (some_not_zero n) refl

-- From bytes to their word.

plain_is : (bytes : List ℕ) (w : Word) (n : ℕ) → decimal n ≡ bytes → n ≤ last_var → Some (plain n) ≡ Some w → IsOf w bytes
plain_is bytes w zero spelled within is =
    let e : Some End ≡ Some w = is in
    let end : End ≡ w = cc in subst (λ v. IsOf v bytes) end (sym spelled ∙ decimal_digit 0 (omega arith))
plain_is bytes w (suc n) spelled within is =
    let e : Some (Literal (pos (suc n))) ≡ Some w = ap (λ v. Some v) (sym (plain_some n)) ∙ is in
    let literal : Literal (pos (suc n)) ≡ w = cc in
    subst (λ v. IsOf v bytes) literal (positive (suc n) (omega arith) within, sym spelled)

negated_is : (bytes : List ℕ) (w : Word) (n : ℕ) → decimal n ≡ bytes → n ≤ last_var → negated n ≡ Some w → IsOf w (45 ∷ bytes)
negated_is bytes w zero spelled within is = let e : None ≡ Some w = is in absurd cc
negated_is bytes w (suc n) spelled within is =
    let e : Some (Literal (negsuc n)) ≡ Some w = sym (negated_some n) ∙ is in
    let literal : Literal (negsuc n) ≡ w = cc in
    subst (λ v. IsOf v (45 ∷ bytes)) literal (negative n within, ap (λ bs. 45 ∷ bs) (sym spelled))

plain_in : (bytes : List ℕ) (w : Word) (o : Option ℕ) → number_of last_var bytes ≡ o → option_map plain o ≡ Some w → IsOf w bytes
plain_in bytes w None read is = absurd cc
plain_in bytes w (Some n) read is =
    let number = number_is last_var bytes n small read in plain_is bytes w n number.spelled number.within is

negated_in : (bytes : List ℕ) (w : Word) (o : Option ℕ) → number_of last_var bytes ≡ o → option_and_then negated o ≡ Some w → IsOf w (45 ∷ bytes)
negated_in bytes w None read is = absurd cc
negated_in bytes w (Some n) read is =
    let number = number_is last_var bytes n small read in negated_is bytes w n number.spelled number.within is

by_sign : (b : ℕ) (bytes : List ℕ) (w : Word) (e : Bool) → (b == 45) ≡ e → word_in (b ∷ bytes) ≡ Some w → IsOf w (b ∷ bytes)
by_sign b bytes w true sign is =
    let read : option_and_then negated (number_of last_var bytes) ≡ Some w = rw sign at is in
    subst (λ a. IsOf w (a ∷ bytes)) (sym (eqb-true b 45 sign)) (negated_in bytes w (number_of last_var bytes) refl read)
by_sign b bytes w false sign is =
    let read : option_map plain (number_of last_var (b ∷ bytes)) ≡ Some w = rw sign at is in
    plain_in (b ∷ bytes) w (number_of last_var (b ∷ bytes)) refl read

-- bytes that are read as a word spell it
pub word_is : (bytes : List ℕ) (w : Word) → word_in bytes ≡ Some w → IsOf w bytes
word_is [] w is = absurd cc
word_is (b ∷ bytes) w is = by_sign b bytes w (b == 45) refl is

-- From words to their bytes.

no_sign : (b : ℕ) (rest : List ℕ) → is_digit b ≡ true → word_in (b ∷ rest) ≡ option_map plain (number_of last_var (b ∷ rest))
no_sign b rest digit = let e : (b == 45) ≡ false = grind (arith, nat_tests) in rw e refl

unsigned : (n : ℕ) → n ≤ last_var → word_in (decimal n) ≡ Some (plain n)
unsigned n within =
    let cells = decimal_cells n (omega arith) in
    ap word_in cells.2 ∙ no_sign cells.0 cells.1 cells.3 ∙ ap (λ bs. option_map plain (number_of last_var bs)) (sym cells.2)
    ∙ ap (option_map plain) (number_again last_var n within small)

pub literal_again : (l : ℤ) → is_literal l ≡ true → word_in (signed_decimal l) ≡ Some (Literal l)
literal_again (pos zero) is = absurd cc
literal_again (pos (suc n)) is = unsigned (suc n) (leb-true (suc n) last_var (and_parts _ _ is).1) ∙ ap (λ v. Some v) (plain_some n)
literal_again (negsuc n) is =
    ap (option_and_then negated) (number_again last_var (suc n) (leb-true (suc n) last_var (and_parts _ _ is).1) small)
    ∙ negated_some n

pub end_again : word_in (codes "0") ≡ Some End
end_again = ap word_in (sym (decimal_digit 0 (omega arith))) ∙ unsigned 0 (omega arith)
