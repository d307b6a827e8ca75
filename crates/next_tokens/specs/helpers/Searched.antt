-- Helpers: what a search of a text for its syntax fault finds.
use Rattle.std.specs.Prelude.{ℕ, ◌-◌, ◌≤◌, List, length, Option, MatchOption}
use Rattle.tc_lexer.specs.declared.token.Token.{Token}
use Rattle.tc_lexer.specs.Text.{AreTokens}
use Rattle.tc_tree.specs.Grammar.{Program, IsSpelled, IsSyntaxFault}
use Rattle.tc_tree.specs.declared.word.Word.{Word}
use Rattle.next_tokens.specs.Next.{AreProgram, IsStuck}
use Rattle.next_tokens.specs.declared.stuck.Stuck.{Stuck}

-- the text has tokens with this property
abbrev pub HasTokens : (text : List ℕ) → (List Token → Type 0) → Type 0
HasTokens text P = (tokens : List Token) × AreTokens 4 text tokens × P tokens

-- the result of the search: the place where tokens stop being a program's, or none if they are one
abbrev pub IsSearched : (text : List ℕ) → Option Stuck → Type 0
IsSearched text stuck = MatchOption stuck
    (HasTokens text (AreProgram text))
    (λ s. HasTokens text (λ tokens. IsStuck text tokens s))

-- `left` is the number of words from their fault on, or none if they are a program
abbrev pub IsLeft : List Word → Option ℕ → Type 0
IsLeft words left =
    MatchOption left ((p : Program) × IsSpelled 4 words p)
    (λ n. (n ≤ length words) × IsSyntaxFault 4 words (length words - n))
