-- Numbers and their decimal notation.
use Rattle.std.proofs.Common.{
  ◌≡◌,
  ◌<◌,
  ◌≤◌,
  ◌^◌,
  ℕ,
  zero,
  suc,
  Bool,
  true,
  false,
  ltb,
  leb,
  cond,
  List,
  [],
  ◌∷◌,
  ◌++◌,
  length,
  get_or,
  take,
  drop,
  refl,
  sym,
  ap,
  ◌∙◌,
  subst,
  arith,
  rules,
}
use Rattle.std.proofs.Common.{Bor, Some, None, Result, Ok, Err, not, ◌&&◌}
use Rattle.std.specs.List.{list_all, prefix_len}
use Rattle.std.specs.Fmt.{decimal}
use Rattle.std.specs.Str.{IsUtf8}
use Rattle.std.specs.Str.Parse.{digits_value, ParsesUnsigned}
use Rattle.std.specs.Option.{SomeIff}
use Rattle.std.specs.Result.{MatchResult, OkIff, result_ok}
use Rattle.std.proofs.lemmas.Str.{IsUtf8-from_ascii}
use Rattle.std.proofs.lemmas.Str.Parse.{IsNumeralModel, IsDigitsTest, numerals_by_value, parse_digits}
use Rattle.std.proofs.lemmas.Bool.{and_parts, eqb-false, le-leb, leb-true, lt-ltb, ltb-true, not-true}
use Rattle.std.proofs.lemmas.Bool.Decides.{nat_tests}
use Rattle.std.proofs.lemmas.List.{take_at, drop_at, take-append-drop}
use Rattle.std.proofs.lemmas.Option.{cond_some, option_and_then_some}
use Rattle.std.proofs.lemmas.Fmt.{digits_decimal, digits_value-decimal, decimal-digits_value, decimal_nonempty, decimal_digit, first_decimal}
use Rattle.std.proofs.lemmas.Fmt.{IsAscii-from_digits}
use Rattle.tc_decimal.specs.Decimals.{is_digit, leads_with_zero, number_of, number_at}
use Rattle.tc_decimal.proofs.Runs.{prefix_len_run}

tells_digits : IsDigitsTest (λ ds. list_all is_digit ds ≡ true)
tells_digits = search rules

own_digits : IsNumeralModel (λ ds. list_all is_digit ds ≡ true) (digits_value 10)
own_digits = numerals_by_value _ tells_digits

-- The notation of a number.

pub decimal_digits : (n : ℕ) → n < 2 ^ 32 → list_all is_digit (decimal n) ≡ true
decimal_digits n h = digits_decimal own_digits n (omega arith)

pub decimal_some : (n : ℕ) → n < 2 ^ 32 → 0 < length (decimal n)
decimal_some n h = decimal_nonempty n (omega arith)

-- a list of digits that isn't empty
cells : (P : ℕ → Bool) (bs : List ℕ) → 0 < length bs → list_all P bs ≡ true → (b : ℕ) × (rest : List ℕ) × (bs ≡ b ∷ rest) × (P b ≡ true)
cells P [] h all = absurd (omega arith)
cells P (b ∷ bs) h all = (b, bs, refl, (and_parts (P b) (list_all P bs) all).0)

pub decimal_cells : (n : ℕ) → n < 2 ^ 32 → (b : ℕ) × (rest : List ℕ) × (decimal n ≡ b ∷ rest) × (is_digit b ≡ true)
decimal_cells n h = cells is_digit (decimal n) (decimal_some n h) (decimal_digits n h)

no_zero_leads : (bs : List ℕ) → 48 < get_or bs 0 0 → leads_with_zero bs ≡ false
no_zero_leads [] h = refl
no_zero_leads (b ∷ []) h = refl
no_zero_leads (b ∷ c ∷ bs) h = grind (arith, nat_tests)

decimal_leads : (n : ℕ) → n < 2 ^ 32 → leads_with_zero (decimal n) ≡ false
decimal_leads zero h = ap leads_with_zero (decimal_digit 0 (omega arith))
decimal_leads (suc n) h = no_zero_leads (decimal (suc n)) (first_decimal (suc n) (omega arith) (omega arith))

-- A word and its number.

-- the decimal notation of a number is read as the number
pub number_again : (last n : ℕ) → n ≤ last → last < 2 ^ 32 → number_of last (decimal n) ≡ Some n
number_again last n h small =
    let v = digits_value-decimal own_digits n (omega arith) in
    rw (
      decimal_digits n (omega arith),
      decimal_leads n (omega arith),
      lt-ltb 0 (length (decimal n)) (decimal_some n (omega arith)),
      v,
      le-leb n last h,
    ) refl

-- the words that are read as a number
pub record IsNumber (last : ℕ) (word : List ℕ) (n : ℕ) : Type 0 where
  pub digits : list_all is_digit word ≡ true
  pub within : n ≤ last
  pub spelled : decimal n ≡ word

alone : (bs : List ℕ) → 0 < length bs → leads_with_zero bs ≡ false → get_or bs 0 0 ≡ 48 → length bs ≡ 1
alone [] n h e = absurd (omega arith)
alone (b ∷ []) n h e = refl
alone (b ∷ c ∷ bs) n h e = absurd (eqb-false b 48 h e)

-- a word that is read is the decimal notation of its number
pub number_is : (last : ℕ) (word : List ℕ) (n : ℕ) → last < 2 ^ 32 → number_of last word ≡ Some n → IsNumber last word n
number_is last word n small e =
    let g = cond_some _ (digits_value 10 word) n e in
    let a = and_parts (list_all is_digit word && not (leads_with_zero word) && ltb 0 (length word)) (leb (digits_value 10 word) last) g.0 in
    let b = and_parts (list_all is_digit word && not (leads_with_zero word)) (ltb 0 (length word)) a.0 in
    let d = and_parts (list_all is_digit word) (not (leads_with_zero word)) b.0 in
    let some = ltb-true _ _ b.1 in
    let within : digits_value 10 word ≤ last = leb-true _ _ a.1 in
    record {
      digits = d.0;
      within = subst (λ (m : ℕ). m ≤ last) g.1 within;
      spelled =
          ap decimal (sym g.1) ∙ decimal-digits_value own_digits word d.0 some (alone word some (not-true _ d.1)) (omega arith);
    }

-- The front of a text and its number.

-- the text doesn't begin with a digit
abbrev pub ends_number : List ℕ → Bool
ends_number [] = true
ends_number (b ∷ _) = not (is_digit b)

no_digits : (rest : List ℕ) → ends_number rest ≡ true → prefix_len is_digit rest ≡ 0
no_digits [] h = refl
no_digits (b ∷ bs) h = grind (arith, nat_tests)

-- the decimal notation of a number at the front of a text is read as the number
pub front_again : (low last n : ℕ) (rest : List ℕ) → low ≤ n → n ≤ last → last < 2 ^ 32 → ends_number rest ≡ true
    → number_at low last (decimal n ++ rest) ≡ Some (n, rest)
unfolding number_at
front_again low last n rest l h small e =
    let len = prefix_len_run is_digit (decimal n) rest (decimal_digits n (omega arith)) (no_digits rest e) in
    rw (
      len,
      take_at (decimal n) rest (length (decimal n)) refl,
      drop_at (decimal n) rest (length (decimal n)) refl,
      number_again last n h small,
      le-leb low n l,
    ) refl

-- the fronts of a text that are read as a number
pub record IsFront (low last : ℕ) (bytes : List ℕ) (n : ℕ) (rest : List ℕ) : Type 0 where
  pub parts : bytes ≡ decimal n ++ rest
  pub above : low ≤ n
  pub below : n ≤ last

-- a front that is read is the decimal notation of its number
pub front_is : (low last : ℕ) (bytes : List ℕ) (n : ℕ) (rest : List ℕ) → last < 2 ^ 32 → number_at low last bytes ≡ Some (n, rest)
    → IsFront low last bytes n rest
unfolding number_at
front_is low last bytes n rest small e =
    let len = prefix_len is_digit bytes in
    option_and_then_some (λ m. cond (leb low m) (Some (m, drop len bytes)) None) (number_of last (take len bytes)) (n, rest) e (λ m found f.
    let g = cond_some (leb low m) (m, drop len bytes) (n, rest) f in
    let n-is : m ≡ n = ap (λ (p : ℕ × List ℕ). p.0) g.1 in
    let rest-is : drop len bytes ≡ rest = ap (λ (p : ℕ × List ℕ). p.1) g.1 in
    let word = number_is last (take len bytes) m small found in
    record {
      parts = rw (← n-is, word.spelled, ← rest-is) (sym (take-append-drop len bytes));
      above = rw (← n-is) (leb-true _ _ g.0);
      below = rw (← n-is) word.within;
    })

-- Digits are a text, and parse to their value.

digits_text : (bytes : List ℕ) → list_all is_digit bytes ≡ true → IsUtf8 bytes
digits_text bytes all = IsUtf8-from_ascii bytes (IsAscii-from_digits bytes (own_digits.to bytes all))

pub digits_have_text : {E : Type 0} (r : Result (Bor (List ℕ)) E) (bytes : List ℕ) (Q : E → Type 0) → list_all is_digit bytes ≡ true
    → MatchResult r (λ s. (s.now ≡ bytes) × IsUtf8 bytes) (λ e. ¬ (IsUtf8 bytes) × Q e) → result_ok r ≡ None → ⊥
digits_have_text (Ok s) bytes Q all h e = cc
digits_have_text (Err x) bytes Q all h e = h.0 (digits_text bytes all)

pub text_is : {E : Type 0} (r : Result (Bor (List ℕ)) E) (bytes : List ℕ) (Q : E → Type 0) (s : Bor (List ℕ))
    → MatchResult r (λ s. (s.now ≡ bytes) × IsUtf8 bytes) (λ e. ¬ (IsUtf8 bytes) × Q e) → result_ok r ≡ Some s → s.now ≡ bytes
text_is (Ok t) bytes Q s h e =
    let same : t ≡ s = cc in
    ap (λ (b : Bor (List ℕ)). b.now) (sym same) ∙ h.0
text_is (Err x) bytes Q s h e = absurd cc

some_from_ok : {T E : Type 0} (r : Result T E) (P : Type 0) (v : T) → OkIff r P v → SomeIff (result_ok r) P v
some_from_ok (Ok x) P v h = h
some_from_ok (Err x) P v h = h

pub parsed_value : {E : Type 0} (r : Result ℕ E) (text bytes : List ℕ) → text ≡ bytes → list_all is_digit bytes ≡ true → ParsesUnsigned 32 10 text r
    → SomeIff (result_ok r) ((0 < length bytes) × (digits_value 10 bytes < 2 ^ 32)) (digits_value 10 bytes)
parsed_value r text bytes e all h =
    some_from_ok r _ _ (parse_digits own_digits 32 bytes r (subst (λ (s : List ℕ). ParsesUnsigned 32 10 s r) e h) all)
