-- Where tokens stop being a program's, and which are possible there.
use Rattle.std.specs.Prelude.{◌≡◌, ◌↔◌, ◌⊎◌, true, ℕ, pos, List, [], ◌∷◌, ◌++◌, map, take}
use Rattle.tc_lexer.specs.declared.token.Keyword.{Keyword as AnyKeyword}
use Rattle.tc_lexer.specs.declared.token.Keyword.TheVariants.{Int, Mutex, Cond, Thread, Main, Tid, If, Else, While, Create, Join, Lock, Unlock, Wait, Signal}
use Rattle.tc_lexer.specs.declared.token.Keyword.TheVariants.{Broadcast, Fence, Assert, Swap, Cas, Stbar}
use Rattle.tc_lexer.specs.declared.token.Sign.{Sign as AnySign}
use Rattle.tc_lexer.specs.declared.token.Sign.TheVariants.{OpenParen, CloseParen, OpenBracket, CloseBracket, OpenBrace, CloseBrace, Comma, Semicolon, Assign}
use Rattle.tc_lexer.specs.declared.token.Sign.TheVariants.{Plus, Minus, Star, Slash, Percent, Bang, Tilde, Less, LessEqual, Greater, GreaterEqual, EqualEqual}
use Rattle.tc_lexer.specs.declared.token.Sign.TheVariants.{BangEqual, ShiftLeft, ShiftRight, And, Caret, Or, AndAnd, OrOr}
use Rattle.tc_lexer.specs.declared.token.Token.{Token}
use Rattle.tc_lexer.specs.declared.token.TokenKind.{TokenKind}
use Rattle.tc_lexer.specs.declared.token.TokenKind.TheVariants as kind
use Rattle.tc_tree.specs.Grammar.{Program, Begins, IsSpelled, IsSyntaxFault}
use Rattle.tc_tree.specs.Words.{words_of}
use Rattle.next_tokens.specs.declared.stuck.Stuck.{Stuck}

abbrev pub all_keywords : List AnyKeyword
all_keywords =
    Int ∷ Mutex ∷ Cond ∷ Thread ∷ Main ∷ Tid ∷ If ∷ Else ∷ While ∷ Create ∷ Join ∷ Lock ∷ Unlock
    ∷ Wait ∷ Signal
    ∷ Broadcast ∷ Fence ∷ Assert ∷ Swap ∷ Cas ∷ Stbar ∷ []

abbrev pub all_signs : List AnySign
all_signs =
    OpenParen ∷ CloseParen ∷ OpenBracket ∷ CloseBracket ∷ OpenBrace ∷ CloseBrace ∷ Comma
    ∷ Semicolon ∷ Assign
    ∷ Plus ∷ Minus ∷ Star ∷ Slash ∷ Percent ∷ Bang ∷ Tilde ∷ Less ∷ LessEqual ∷ Greater
    ∷ GreaterEqual ∷ EqualEqual
    ∷ BangEqual ∷ ShiftLeft ∷ ShiftRight ∷ And ∷ Caret ∷ Or ∷ AndAnd ∷ OrOr ∷ []

-- each kind of token once; 0 represents every number
abbrev pub all_kinds : List TokenKind
all_kinds =
    kind.Name ∷ kind.Number (pos 0) ∷ (map kind.Keyword all_keywords ++ map kind.Sign all_signs)

-- a token of this kind
abbrev pub sample : TokenKind → Token
sample k = record { kind = k; start = 0; end = 0; place = record { line = 1; col = 1 } }

-- some program begins with these tokens of a text and then a token of this kind. The words before it
-- may depend on it: before `(`, an assigned `add` is no name
abbrev pub GoesOnWith : (text : List ℕ) → List Token → TokenKind → Type 0
GoesOnWith text before k = Begins 4 (words_of 4 text (before ++ sample k ∷ []))

-- the second list has those items of the first that have this property, in the same order
abbrev pub ArePicked : {A : Type 0} → (A → Type 0) → List A → List A → Type 0
ArePicked {A} P [] picked = picked ≡ []
ArePicked {A} P (x ∷ xs) picked =
    (P x × (rest : List A) × (picked ≡ x ∷ rest) × ArePicked P xs rest)
    ⊎ ((P x → ⊥) × ArePicked P xs picked)

-- the tokens of a text are a program
abbrev pub AreProgram : (text : List ℕ) → List Token → Type 0
AreProgram text tokens = (p : Program) × IsSpelled 4 (words_of 4 text tokens) p

-- no program goes on with the token at this place; the kinds possible there are those with which
-- some program goes on
pub record IsStuck (text : List ℕ) (tokens : List Token) (stuck : Stuck) : Type 0 where
  pub fault : IsSyntaxFault 4 (words_of 4 text tokens) stuck.place
  pub kinds : ArePicked (GoesOnWith text (take stuck.place tokens)) all_kinds stuck.kinds.items
  -- the text may end there exactly if the tokens before it are a program
  pub end : (stuck.may_end ≡ true) ↔ AreProgram text (take stuck.place tokens)
