-- Signs and their texts.
use Rattle.std.proofs.Common.{◌≡◌, ◌≤◌, ℕ, Bool, true, false, cond, List, [], ◌∷◌, ◌++◌, length, drop, refl, sym, ap, inl, inr, ◌∙◌, arith, Option, Some, None}
use Rattle.std.specs.Prelude.{◌&&◌, ◌||◌, ◌==◌, not, nat_le, nat_eq, IsTrue}
use Rattle.std.specs.List.{starts_with}
use Rattle.std.proofs.lemmas.Bool.{cases_Bool, and_parts, and_from, and_cases, and_left, and_right, or_parts, or_from, not-true, not_from_false, cond-true}
use Rattle.std.proofs.lemmas.Bool.{cond-false, le-leb, leb-true, leb-false}
use Rattle.std.proofs.lemmas.Bool.Decides.{nat_tests, Decides-eqb}
use Rattle.std.proofs.lemmas.Slice.Eq.{starts_is}
use Rattle.tc_lexer.specs.declared.token.Sign.{Sign}
use Rattle.tc_lexer.specs.declared.token.Sign.TheVariants.{OpenParen, CloseParen, OpenBracket, CloseBracket, OpenBrace, CloseBrace, Comma, Semicolon, Assign}
use Rattle.tc_lexer.specs.declared.token.Sign.TheVariants.{Plus, Minus, Star, Slash, Percent, Bang, Tilde, Less, LessEqual, Greater, GreaterEqual, EqualEqual}
use Rattle.tc_lexer.specs.declared.token.Sign.TheVariants.{BangEqual, ShiftLeft, ShiftRight, And, Caret, Or, AndAnd, OrOr}
use Rattle.tc_lexer.specs.Tokens.{sign_text, sign_since, sign_continues}
use Rattle.tc_lexer.specs.helpers.Reading.{signs, sign_at}
use Rattle.tc_lexer.proofs.Keywords.{find_passes}

pub eq_swapped : (a b : ℕ) → (a == b) ≡ (b == a)
eq_swapped a b = grind (arith, nat_tests)

-- no byte after the sign belongs to it
abbrev pub SignEnds : ℕ → Sign → List ℕ → Type 0
SignEnds language s [] = Unit {0}
SignEnds language s (b ∷ _) = IsTrue (not (sign_continues language s b))

-- whether two bytes are equal, and the language has the sign of both
abbrev is_pair : ℕ → ℕ → ℕ → ℕ → Bool
is_pair language since b c = nat_eq c b && true && nat_le since language

no_pair : (language since b c : ℕ) → (b == c) ≡ false → is_pair language since b c ≡ false
no_pair language since b c h = and_left _ _ (and_left _ _ (eq_swapped c b ∙ h))

no_late_pair : (language since b c : ℕ) → (b == c && nat_le since language) ≡ false → is_pair language since b c ≡ false
no_late_pair language since b c h = elim (and_cases (b == c) (nat_le since language) h) [
  | inl e ↦ no_pair language since b c e
  | inr e ↦ and_right _ _ e
]

-- if the bytes differ, they aren't the longer sign, and the sign is the shorter one
one_longer : (language b c : ℕ) (long short : Sign) → 1 ≤ language → not (b == c) ≡ true
    → cond (is_pair language 1 b c) (Some long) (cond (nat_le 1 language) (Some short) None) ≡ Some short
one_longer language b c long short h e = cond-false _ _ _ (no_pair language 1 b c (not-true _ e)) ∙ cond-true _ _ _ (le-leb _ _ h)

two_longer : (language b c d : ℕ) (long longer short : Sign) → 1 ≤ language → not (b == c || (b == d && nat_le 2 language)) ≡ true
    → cond (is_pair language 1 b c) (Some long) (cond (is_pair language 2 b d) (Some longer) (cond (nat_le 1 language) (Some short) None)) ≡ Some short
two_longer language b c d long longer short h e =
    let p = or_parts (b == c) (b == d && nat_le 2 language) (not-true _ e) in
    cond-false _ _ _ (no_pair language 1 b c p.0) ∙ (cond-false _ _ _ (no_late_pair language 2 b d p.1) ∙ cond-true _ _ _ (le-leb _ _ h))

-- the sign at the front is found
pub sign_found : (language : ℕ) (s : Sign) (rest : List ℕ) → sign_since s ≤ language → SignEnds language s rest
    → sign_at language (sign_text s ++ rest) ≡ Some s
sign_found language OpenParen rest h e = cond-true _ _ _ (le-leb _ _ h)
sign_found language CloseParen rest h e = cond-true _ _ _ (le-leb _ _ h)
sign_found language OpenBracket rest h e = cond-true _ _ _ (le-leb _ _ h)
sign_found language CloseBracket rest h e = cond-true _ _ _ (le-leb _ _ h)
sign_found language OpenBrace rest h e = cond-true _ _ _ (le-leb _ _ h)
sign_found language CloseBrace rest h e = cond-true _ _ _ (le-leb _ _ h)
sign_found language Comma rest h e = cond-true _ _ _ (le-leb _ _ h)
sign_found language Semicolon rest h e = cond-true _ _ _ (le-leb _ _ h)
sign_found language Assign [] h e = cond-true _ _ _ (le-leb _ _ h)
sign_found language Assign (b ∷ bs) h e = one_longer language b 61 EqualEqual Assign h e
sign_found language Plus rest h e = cond-true _ _ _ (le-leb _ _ h)
sign_found language Minus rest h e = cond-true _ _ _ (le-leb _ _ h)
sign_found language Star rest h e = cond-true _ _ _ (le-leb _ _ h)
sign_found language Slash rest h e = cond-true _ _ _ (le-leb _ _ h)
sign_found language Percent rest h e = cond-true _ _ _ (le-leb _ _ h)
sign_found language Bang [] h e = cond-true _ _ _ (le-leb _ _ h)
sign_found language Bang (b ∷ bs) h e = one_longer language b 61 BangEqual Bang h e
sign_found language Tilde rest h e = cond-true _ _ _ (le-leb _ _ h)
sign_found language Less [] h e = cond-true _ _ _ (le-leb _ _ h)
sign_found language Less (b ∷ bs) h e = two_longer language b 61 60 LessEqual ShiftLeft Less h e
sign_found language LessEqual rest h e = cond-true _ _ _ (le-leb _ _ h)
sign_found language Greater [] h e = cond-true _ _ _ (le-leb _ _ h)
sign_found language Greater (b ∷ bs) h e = two_longer language b 61 62 GreaterEqual ShiftRight Greater h e
sign_found language GreaterEqual rest h e = cond-true _ _ _ (le-leb _ _ h)
sign_found language EqualEqual rest h e = cond-true _ _ _ (le-leb _ _ h)
sign_found language BangEqual rest h e = cond-true _ _ _ (le-leb _ _ h)
sign_found language ShiftLeft rest h e = cond-true _ _ _ (le-leb _ _ h)
sign_found language ShiftRight rest h e = cond-true _ _ _ (le-leb _ _ h)
sign_found language And [] h e = cond-true _ _ _ (le-leb _ _ h)
sign_found language And (b ∷ bs) h e = one_longer language b 38 AndAnd And h e
sign_found language Caret rest h e = cond-true _ _ _ (le-leb _ _ h)
sign_found language Or [] h e = cond-true _ _ _ (le-leb _ _ h)
sign_found language Or (b ∷ bs) h e = one_longer language b 124 OrOr Or h e
sign_found language AndAnd rest h e = cond-true _ _ _ (le-leb _ _ h)
sign_found language OrOr rest h e = cond-true _ _ _ (le-leb _ _ h)

-- if a shorter sign was found, the longer one isn't at this place
no_longer : (language b c since : ℕ) (long short : Sign) (later : Option Sign) → (long ≡ short → ⊥)
    → cond (is_pair language since b c) (Some long) later ≡ Some short → (b == c && nat_le since language) ≡ false
no_longer language b c since long short later n e = elim (cases_Bool (b == c && nat_le since language)) [
  | inl h ↦
      let p = and_parts (b == c) (nat_le since language) h in
      let q : is_pair language since b c ≡ true = and_from _ _ (and_from _ _ (eq_swapped c b ∙ p.0) refl) p.1 in
      let found : ◌≡◌ {A = Option Sign} (Some long) (Some short) = sym (cond-true _ (Some long) later q) ∙ e in
      absurd (n cc)
  | inr h ↦ h
]

past : (language b c since : ℕ) (long short : Sign) (later : Option Sign) → (long ≡ short → ⊥)
    → cond (is_pair language since b c) (Some long) later ≡ Some short → later ≡ Some short
past language b c since long short later n e =
    sym (cond-false _ (Some long) later (no_late_pair language since b c (no_longer language b c since long short later n e))) ∙ e

in_language : (b : Bool) (language : ℕ) → 1 ≤ language → (b && nat_le 1 language) ≡ false → b ≡ false
in_language b language h e = elim (and_cases b (nat_le 1 language) e) [
  | inl x ↦ x
  | inr x ↦ let small = leb-false 1 language x in absurd (omega arith)
]

pub ends_alone : (language : ℕ) (s : Sign) → ((b : ℕ) → sign_continues language s b ≡ false) → (rest : List ℕ) → SignEnds language s rest
ends_alone language s h [] = tt
ends_alone language s h (b ∷ bs) = ap not (h b)

one_ends : (language b c : ℕ) (long short : Sign) (later : Option Sign) → 1 ≤ language → (long ≡ short → ⊥)
    → cond (is_pair language 1 b c) (Some long) later ≡ Some short → not (b == c) ≡ true
one_ends language b c long short later h n e = not_from_false _ (in_language (b == c) language h (no_longer language b c 1 long short later n e))

two_end : (language b c d : ℕ) (long longer short : Sign) (later : Option Sign) → 1 ≤ language → (long ≡ short → ⊥) → (longer ≡ short → ⊥)
    → cond (is_pair language 1 b c) (Some long) (cond (is_pair language 2 b d) (Some longer) later) ≡ Some short
    → not (b == c || (b == d && nat_le 2 language)) ≡ true
two_end language b c d long longer short later h n m e =
    let first = in_language (b == c) language h (no_longer language b c 1 long short _ n e) in
    let second = no_longer language b d 2 longer short later m (past language b c 1 long short _ n e) in
    not_from_false _ (or_from _ _ first second)

-- a sign that was found at the front is as long as possible, unless a comment begins there
pub sign_ends : (language : ℕ) (s : Sign) (rest : List ℕ) → sign_since s ≤ language → sign_at language (sign_text s ++ rest) ≡ Some s
    → (s ≡ Slash → SignEnds language s rest) → SignEnds language s rest
sign_ends language OpenParen rest h e c = ends_alone language OpenParen (λ b. refl) rest
sign_ends language CloseParen rest h e c = ends_alone language CloseParen (λ b. refl) rest
sign_ends language OpenBracket rest h e c = ends_alone language OpenBracket (λ b. refl) rest
sign_ends language CloseBracket rest h e c = ends_alone language CloseBracket (λ b. refl) rest
sign_ends language OpenBrace rest h e c = ends_alone language OpenBrace (λ b. refl) rest
sign_ends language CloseBrace rest h e c = ends_alone language CloseBrace (λ b. refl) rest
sign_ends language Comma rest h e c = ends_alone language Comma (λ b. refl) rest
sign_ends language Semicolon rest h e c = ends_alone language Semicolon (λ b. refl) rest
sign_ends language Assign [] h e c = tt
sign_ends language Assign (b ∷ bs) h e c = one_ends language b 61 EqualEqual Assign _ h (λ x. cc) e
sign_ends language Plus rest h e c = ends_alone language Plus (λ b. refl) rest
sign_ends language Minus rest h e c = ends_alone language Minus (λ b. refl) rest
sign_ends language Star rest h e c = ends_alone language Star (λ b. refl) rest
sign_ends language Slash rest h e c = c refl
sign_ends language Percent rest h e c = ends_alone language Percent (λ b. refl) rest
sign_ends language Bang [] h e c = tt
sign_ends language Bang (b ∷ bs) h e c = one_ends language b 61 BangEqual Bang _ h (λ x. cc) e
sign_ends language Tilde rest h e c = ends_alone language Tilde (λ b. refl) rest
sign_ends language Less [] h e c = tt
sign_ends language Less (b ∷ bs) h e c = two_end language b 61 60 LessEqual ShiftLeft Less _ h (λ x. cc) (λ x. cc) e
sign_ends language LessEqual rest h e c = ends_alone language LessEqual (λ b. refl) rest
sign_ends language Greater [] h e c = tt
sign_ends language Greater (b ∷ bs) h e c = two_end language b 61 62 GreaterEqual ShiftRight Greater _ h (λ x. cc) (λ x. cc) e
sign_ends language GreaterEqual rest h e c = ends_alone language GreaterEqual (λ b. refl) rest
sign_ends language EqualEqual rest h e c = ends_alone language EqualEqual (λ b. refl) rest
sign_ends language BangEqual rest h e c = ends_alone language BangEqual (λ b. refl) rest
sign_ends language ShiftLeft rest h e c = ends_alone language ShiftLeft (λ b. refl) rest
sign_ends language ShiftRight rest h e c = ends_alone language ShiftRight (λ b. refl) rest
sign_ends language And [] h e c = tt
sign_ends language And (b ∷ bs) h e c = one_ends language b 38 AndAnd And _ h (λ x. cc) e
sign_ends language Caret rest h e c = ends_alone language Caret (λ b. refl) rest
sign_ends language Or [] h e c = tt
sign_ends language Or (b ∷ bs) h e c = one_ends language b 124 OrOr Or _ h (λ x. cc) e
sign_ends language AndAnd rest h e c = ends_alone language AndAnd (λ b. refl) rest
sign_ends language OrOr rest h e c = ends_alone language OrOr (λ b. refl) rest

-- a sign that was found is at the front
pub sign_is : (language : ℕ) (bytes : List ℕ) (s : Sign) → sign_at language bytes ≡ Some s
    → (bytes ≡ sign_text s ++ drop (length (sign_text s)) bytes) × (sign_since s ≤ language)
sign_is language bytes s e =
    let p = and_parts (starts_with nat_eq bytes (sign_text s)) (nat_le (sign_since s) language)
    (find_passes (λ t. starts_with nat_eq bytes (sign_text t) && nat_le (sign_since t) language) signs s e) in
    ((starts_is Decides-eqb bytes (sign_text s) (starts_with nat_eq bytes (sign_text s)) refl).0 p.0, leb-true _ _ p.1)
