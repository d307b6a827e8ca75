-- The first stretch that is too long, found one token at a time.
use Rattle.std.proofs.Common.{◌≡◌, ℕ, suc, ◌+◌, ◌≤◌, List, [], ◌∷◌, length, map, drop, cond, refl, sym, ap, ◌∙◌, arith}
use Rattle.std.proofs.Common.{Option, Some, None, inl, inr}
use Rattle.std.specs.Prelude.{nat_lt}
use Rattle.std.specs.List.{slice_split, onto_first, find}
use Rattle.std.proofs.lemmas.Bool.{cases_Bool, cond-true, cond-false}
use Rattle.std.proofs.lemmas.List.Splits.{slice_split-cons_yes, slice_split-cons_no}
use Rattle.tc_limits.specs.declared.limits.TheConstants.{STRETCH}
use Rattle.tc_lexer.specs.declared.token.Token.{Token}
use Rattle.tc_parser.specs.Programs.{ends_stretch, long_stretch}

-- the number, if it is above the limit
abbrev pub too_many : ℕ → Option ℕ → Option ℕ
too_many n other = cond (nat_lt STRETCH n) (Some n) other

-- the first long stretch of these tokens, with `n` tokens of the first stretch before them
abbrev pub long_after : ℕ → List Token → Option ℕ
long_after n [] = too_many n None
long_after n (t ∷ ts) = cond (ends_stretch t.kind) (too_many n (long_after 0 ts)) (long_after (n + 1) ts)

abbrev long_among : List ℕ → Option ℕ
long_among ns = find (λ n. nat_lt STRETCH n) ns

-- the first long one of the parts, with `n` more tokens in the first part
abbrev long_of : ℕ → List (List Token) → Option ℕ
long_of n [] = too_many n None
long_of n (p ∷ ps) = long_among ((n + length p) ∷ map length ps)

long_from : (parts : List (List Token)) → long_among (map length parts) ≡ long_of 0 parts
long_from [] = refl
long_from (p ∷ ps) = let same : length p ≡ 0 + length p = omega arith in ap (λ (k : ℕ). long_among (k ∷ map length ps)) same

begins_anew : (n : ℕ) (parts : List (List Token)) → long_of n ([] ∷ parts) ≡ too_many n (long_of 0 parts)
begins_anew n parts =
    let same : n + 0 ≡ n = omega arith in
    ap (λ (k : ℕ). long_among (k ∷ map length parts)) same ∙ ap (too_many n) (long_from parts)

goes_on : (n : ℕ) (t : Token) (parts : List (List Token)) → long_of n (onto_first t parts) ≡ long_of (n + 1) parts
goes_on n t [] = refl
goes_on n t (p ∷ ps) = let same : n + suc (length p) ≡ n + 1 + length p = omega arith in ap (λ (k : ℕ). long_among (k ∷ map length ps)) same

long_parts : (n : ℕ) (ts : List Token) → long_of n (slice_split (λ (t : Token). ends_stretch t.kind) ts) ≡ long_after n ts
long_parts n [] = let same : n + 0 ≡ n = omega arith in ap (λ (k : ℕ). long_among (k ∷ [])) same
long_parts n (t ∷ ts) =
    let is_end = λ (u : Token). ends_stretch u.kind in
    elim (cases_Bool (ends_stretch t.kind)) [
      | inl h ↦ ap (long_of n) (slice_split-cons_yes is_end t ts h) ∙ begins_anew n (slice_split is_end ts) ∙ ap (too_many n) (long_parts 0 ts)
          ∙ sym (cond-true _ _ _ h)
      | inr h ↦ ap (long_of n) (slice_split-cons_no is_end t ts h) ∙ goes_on n t (slice_split is_end ts) ∙ long_parts (n + 1) ts
          ∙ sym (cond-false _ _ _ h)
    ]

-- facts on the tokens from one on
pub record IsLeft (tokens : List Token) (i n : ℕ) : Type 0 where
  pub whole : long_stretch tokens ≡ long_after n (drop i tokens)
  pub within : n ≤ i

pub all_left : (tokens : List Token) → IsLeft tokens 0 0
all_left tokens = record {
  whole = long_from (slice_split (λ (t : Token). ends_stretch t.kind) tokens) ∙ long_parts 0 tokens;
  within = omega arith;
}
