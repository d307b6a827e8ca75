-- How the tokens of one language differ from those of the next.
use Rattle.std.specs.Prelude.{◌≡◌, ◌≢◌, ℕ, Bool, true, false, ◌&&◌, not, List, [], ◌∷◌, All}
use Rattle.tc_lexer.specs.declared.token.Keyword.{Keyword as AnyKeyword}
use Rattle.tc_lexer.specs.declared.token.Sign.TheVariants.{Less, LessEqual, Greater, GreaterEqual}
use Rattle.tc_lexer.specs.Tokens.{PlainToken, Name, Sign, keyword_text, keyword_since}

-- whether language 2 reads a shift if the second token directly follows the first
abbrev pub makes_shift : PlainToken → PlainToken → Bool
makes_shift (Sign Less) (Sign Less) = true
makes_shift (Sign Less) (Sign LessEqual) = true
makes_shift (Sign Greater) (Sign Greater) = true
makes_shift (Sign Greater) (Sign GreaterEqual) = true
makes_shift _ _ = false

-- whether no two adjacent tokens make a shift
abbrev pub have_no_shift : List PlainToken → Bool
have_no_shift [] = true
have_no_shift (t ∷ []) = true
have_no_shift (t ∷ u ∷ ts) = not (makes_shift t u) && have_no_shift (u ∷ ts)

-- no token is a name that became a keyword in this language
abbrev pub HaveNoKeywordOf : ℕ → List PlainToken → Type 0
HaveNoKeywordOf language ts =
    (k : AnyKeyword) → keyword_since k ≡ language → All (λ t. t ≢ Name (keyword_text k)) ts
