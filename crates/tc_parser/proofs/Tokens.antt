-- Counts of tokens, one token at a time.
use Rattle.std.proofs.Common.{◌≡◌, ℕ, ◌+◌, ◌<◌, ◌≤◌, List, [], ◌∷◌, length, take, get_or, refl, sym, ap, ◌∙◌, subst, arith}
use Rattle.std.proofs.Common.{inl, inr}
use Rattle.std.proofs.lemmas.Bool.{cases_lt}
use Rattle.std.proofs.lemmas.List.{take_all, take_more}
use Rattle.std.proofs.lemmas.List.Sums.{fold-append}
use Rattle.tc_limits.specs.declared.limits.TheConstants.{BRACKETS}
use Rattle.tc_lexer.specs.declared.token.Token.{Token}
use Rattle.tc_parser.specs.Programs.{open_after_kind, open_after, IsNested, IsTooDeep}

-- ---- brackets

-- one token more
pub open_more : (tokens : List Token) (i : ℕ) (d : Token) → i < length tokens
    → open_after (take (i + 1) tokens) ≡ open_after_kind (open_after (take i tokens)) (get_or tokens i d).kind
open_more tokens i d h =
    ap open_after (take_more tokens i d h)
    ∙ fold-append (λ (m : ℕ) (t : Token). open_after_kind m t.kind) 0 (take i tokens) (get_or tokens i d ∷ [])

-- facts on the tokens before one
pub record AreNestedBefore (tokens : List Token) (i m : ℕ) : Type 0 where
  pub open_is : m ≡ open_after (take i tokens)
  pub nested : (k : ℕ) → k ≤ i → open_after (take k tokens) ≤ BRACKETS

pub none_open : (tokens : List Token) → AreNestedBefore tokens 0 0
none_open tokens = record { open_is = refl; nested = λ k h. at_front k h }
  where
    at_front : (k : ℕ) → k ≤ 0 → open_after (take k tokens) ≤ BRACKETS
    at_front k h = let nothing : k ≡ 0 = omega arith in subst (λ (n : ℕ). open_after (take n tokens) ≤ BRACKETS) (sym nothing) (omega arith)

pub nested_more : (tokens : List Token) (i m after : ℕ) (d : Token) → AreNestedBefore tokens i m → i < length tokens
    → after ≡ open_after_kind m (get_or tokens i d).kind → after ≤ BRACKETS → AreNestedBefore tokens (i + 1) after
nested_more tokens i m after d n h is small =
    let here : after ≡ open_after (take (i + 1) tokens) =
    is ∙ ap (λ (k : ℕ). open_after_kind k (get_or tokens i d).kind) n.open_is ∙ sym (open_more tokens i d h) in
    record { open_is = here; nested = λ k l. up_to k l here }
  where
    up_to : (k : ℕ) → k ≤ i + 1 → after ≡ open_after (take (i + 1) tokens) → open_after (take k tokens) ≤ BRACKETS
    up_to k l here = elim (cases_lt i k) [
      | inl later ↦ let last : k ≡ i + 1 = omega arith in subst (λ (m : ℕ). open_after (take m tokens) ≤ BRACKETS) (sym last) (omega (arith, here, small))
      | inr earlier ↦ n.nested k earlier
    ]

pub deep_here : (tokens : List Token) (i m after : ℕ) (d : Token) → AreNestedBefore tokens i m → i < length tokens
    → after ≡ open_after_kind m (get_or tokens i d).kind → BRACKETS < after → IsTooDeep tokens
deep_here tokens i m after d n h is deep =
    let here : open_after (take (i + 1) tokens) ≡ after =
    open_more tokens i d h ∙ ap (λ (k : ℕ). open_after_kind k (get_or tokens i d).kind) (sym n.open_is) ∙ sym is in
    (i + 1, omega (arith, here, deep))

pub all_nested : (tokens : List Token) (i m : ℕ) → AreNestedBefore tokens i m → length tokens ≤ i → IsNested tokens
all_nested tokens i m n h k = elim (cases_lt i k) [
  | inl later ↦ subst (λ (ts : List Token). open_after ts ≤ BRACKETS)
      (take_all i tokens h ∙ sym (take_all k tokens (omega arith))) (n.nested i (omega arith))
  | inr earlier ↦ n.nested k earlier
]
