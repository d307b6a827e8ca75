-- Helpers: what may follow, as a stack of what is expected. Public contracts use program_words.
use Rattle.std.specs.Prelude.{ℕ, suc, nat_eq, List, [], ◌∷◌, ◌++◌, length, Bool, true, false, Option, Some, None, option_map}
use Rattle.tc_lexer.specs.declared.token.Keyword.TheVariants as keyword
use Rattle.tc_lexer.specs.declared.token.Sign.{Sign as AnySign}
use Rattle.tc_lexer.specs.declared.token.Sign.TheVariants.{
  OpenParen,
  CloseParen,
  OpenBracket,
  CloseBracket,
  OpenBrace,
  CloseBrace,
  Comma,
  Semicolon,
  Assign,
  Plus,
  Minus,
  Star,
  Slash,
  Percent,
  Bang,
  Tilde,
  Less,
  LessEqual,
  Greater,
  GreaterEqual,
  EqualEqual,
  BangEqual,
  ShiftLeft,
  ShiftRight,
  And,
  Caret,
  Or,
  AndAnd,
  OrOr,
}
use Rattle.tc_tree.specs.declared.expression.Operator.{Operator}
use Rattle.tc_tree.specs.declared.expression.Operator.TheVariants as operator
use Rattle.tc_tree.specs.Grammar.{level}
use Rattle.tc_tree.specs.declared.word.Word.TheVariants.{
  Name as AName,
  Number as ANumber,
  If as AnIf,
  While as AWhile,
  Action as AnAction,
  Wait as AWait,
  Barrier as ABarrier,
  Assert as AnAssert,
  Update as AnUpdate,
  Keyword as AKeyword,
  Sign as ASign,
  End as AnEnd,
}
use Rattle.tc_tree.specs.declared.word.Word.{Word}
use Rattle.tc_tree.specs.declared.statement.UpdateKind.{UpdateKind}
use Rattle.tc_tree.specs.declared.statement.UpdateKind.TheVariants as kind
use Rattle.tc_tree.specs.declared.statement.Target.{Target}
use Rattle.tc_tree.specs.declared.statement.Target.TheVariants as target

pub data Expected : Type 0 where
  Just : (sign : AnySign) → Expected
  End : Expected
  AnyName : Expected
  AnyNumber : Expected
  AnInt : Expected
  Operand : Expected
  Subscript : Expected
  Operators : Expected
  Arguments : Expected
  Others : Expected
  Statements : Expected
  AfterName : Expected
  AfterAssign : Expected
  Alternative : Expected
  AfterElse : Expected
  Locals : Expected
  Parameters : Expected
  OtherParameters : Expected
  Globals : Expected
  Threads : Expected
  AfterGlobal : Expected
  Initial : Expected

abbrev pub sign_code : AnySign → ℕ
sign_code OpenParen = 0
sign_code CloseParen = 1
sign_code OpenBracket = 2
sign_code CloseBracket = 3
sign_code OpenBrace = 4
sign_code CloseBrace = 5
sign_code Comma = 6
sign_code Semicolon = 7
sign_code Assign = 8
sign_code Plus = 9
sign_code Minus = 10
sign_code Star = 11
sign_code Slash = 12
sign_code Percent = 13
sign_code Bang = 14
sign_code Tilde = 15
sign_code Less = 16
sign_code LessEqual = 17
sign_code Greater = 18
sign_code GreaterEqual = 19
sign_code EqualEqual = 20
sign_code BangEqual = 21
sign_code ShiftLeft = 22
sign_code ShiftRight = 23
sign_code And = 24
sign_code Caret = 25
sign_code Or = 26
sign_code AndAnd = 27
sign_code OrOr = 28

abbrev pub operator_of : AnySign → Option Operator
operator_of Star = Some operator.Multiply
operator_of Slash = Some operator.Divide
operator_of Percent = Some operator.Remainder
operator_of Plus = Some operator.Add
operator_of Minus = Some operator.Subtract
operator_of ShiftLeft = Some operator.ShiftLeft
operator_of ShiftRight = Some operator.ShiftRight
operator_of Less = Some operator.Less
operator_of LessEqual = Some operator.LessOrEqual
operator_of Greater = Some operator.Greater
operator_of GreaterEqual = Some operator.GreaterOrEqual
operator_of EqualEqual = Some operator.Equal
operator_of BangEqual = Some operator.Unequal
operator_of And = Some operator.BitAnd
operator_of Caret = Some operator.BitXor
operator_of Or = Some operator.BitOr
operator_of AndAnd = Some operator.And
operator_of OrOr = Some operator.Or
operator_of _ = None

-- the binary operator that a word is, if any
abbrev pub infix_of : Word → Option Operator
infix_of (ASign s) = operator_of s
infix_of _ = None

-- a condition in parentheses and a block
abbrev pub guarded : List Expected
guarded =
    Just OpenParen ∷ Operand ∷ Operators ∷ Just CloseParen ∷ Just OpenBrace ∷ Statements ∷ End ∷ []

abbrev pub a_body : List Expected
a_body = Just OpenBrace ∷ Locals ∷ Statements ∷ End ∷ []

abbrev pub a_thread : List Expected
a_thread =
    AnyName ∷ Just OpenParen ∷ Parameters ∷ Just CloseParen ∷ Just OpenBrace ∷ Locals ∷ Statements
    ∷ End ∷ []

-- an index in brackets, if an element is updated
abbrev pub an_index : Target → List Expected → List Expected
an_index target.Cell s = s
an_index target.Element s = Just OpenBracket ∷ Operand ∷ Operators ∷ Just CloseBracket ∷ s

-- the operands of an update, each after a comma
abbrev pub operands : UpdateKind → List Expected → List Expected
operands kind.Swap s = Just Comma ∷ Operand ∷ Operators ∷ s
operands kind.Cas s = Just Comma ∷ Operand ∷ Operators ∷ Just Comma ∷ Operand ∷ Operators ∷ s
operands kind.Add s = Just Comma ∷ Operand ∷ Operators ∷ s

abbrev pub an_update : UpdateKind → Target → List Expected
an_update k t =
    Just OpenParen ∷ AnyName ∷ an_index t (operands k (Just CloseParen ∷ Just Semicolon ∷ []))

-- what is expected after the word that begins an operand
abbrev pub operand : Word → Option (List Expected)
operand (AName x) = Some (Subscript ∷ [])
operand (ANumber n) = Some []
operand (ASign OpenParen) = Some (Operand ∷ Operators ∷ Just CloseParen ∷ [])
operand (ASign Minus) = Some (Operand ∷ [])
operand (ASign Bang) = Some (Operand ∷ [])
operand (ASign Tilde) = Some (Operand ∷ [])
operand _ = None

-- what is expected after the word that begins a statement
abbrev pub statement : Word → Option (List Expected)
statement (AName x) = Some (AfterName ∷ [])
statement (AnIf p) =
    Some (Just OpenParen ∷ Operand ∷ Operators ∷ Just CloseParen ∷ Just OpenBrace ∷ Statements
    ∷ End ∷ Alternative ∷ [])
statement (AWhile p) = Some guarded
statement (AnAction a p) = Some (Just OpenParen ∷ AnyName ∷ Just CloseParen ∷ Just Semicolon ∷ [])
statement (AWait p) =
    Some (Just OpenParen ∷ AnyName ∷ Just Comma ∷ AnyName ∷ Just CloseParen ∷ Just Semicolon ∷ [])
statement (ABarrier b p) = Some (Just OpenParen ∷ Just CloseParen ∷ Just Semicolon ∷ [])
statement (AnAssert p) =
    Some (Just OpenParen ∷ Operand ∷ Operators ∷ Just CloseParen ∷ Just Semicolon ∷ [])
statement _ = None

abbrev pub followed : Option (List Expected) → List Expected → Option (List Expected)
followed o more = option_map (λ es. es ++ more) o

abbrev pub more_operators : Option Operator → Option (List Expected)
more_operators (Some op) = Some (Operand ∷ Operators ∷ [])
more_operators None = None

abbrev pub same : Bool → Option (List Expected)
same true = Some []
same false = None

-- what replaces an expected part after its first word, or None if it can't begin with that
abbrev pub first : Expected → Word → Option (List Expected)
first (Just k) (ASign s) = same (nat_eq (sign_code k) (sign_code s))
first (Just k) _ = None
first End (AnEnd p) = Some []
first End _ = None
first AnyName (AName x) = Some []
first AnyName _ = None
first AnyNumber (ANumber n) = Some []
first AnyNumber _ = None
first AnInt (AKeyword keyword.Int) = Some []
first AnInt _ = None
first Operand w = operand w
first Subscript (ASign OpenBracket) = Some (Operand ∷ Operators ∷ Just CloseBracket ∷ [])
first Subscript _ = None
first Operators w = more_operators (infix_of w)
first Arguments w = followed (operand w) (Operators ∷ Others ∷ [])
first Others (ASign Comma) = Some (Operand ∷ Operators ∷ Others ∷ [])
first Others _ = None
first Statements w = followed (statement w) (Statements ∷ [])
first AfterName (ASign Assign) = Some (AfterAssign ∷ [])
first AfterName (ASign OpenBracket) =
    Some (Operand ∷ Operators ∷ Just CloseBracket ∷ Just Assign ∷ Operand ∷ Operators
    ∷ Just Semicolon ∷ [])
first AfterName _ = None
first AfterAssign (AKeyword keyword.Create) =
    Some (AnyName ∷ Just OpenParen ∷ Arguments ∷ Just CloseParen ∷ Just Semicolon ∷ [])
first AfterAssign (AnUpdate k t) = Some (an_update k t)
first AfterAssign w = followed (operand w) (Operators ∷ Just Semicolon ∷ [])
first Alternative (AKeyword keyword.Else) = Some (AfterElse ∷ [])
first Alternative _ = None
first AfterElse (ASign OpenBrace) = Some (Statements ∷ End ∷ [])
first AfterElse (AnIf p) =
    Some (Just OpenParen ∷ Operand ∷ Operators ∷ Just CloseParen ∷ Just OpenBrace ∷ Statements
    ∷ End ∷ Alternative ∷ [])
first AfterElse _ = None
first Locals (AKeyword keyword.Int) = Some (AnyName ∷ Just Semicolon ∷ Locals ∷ [])
first Locals (AKeyword keyword.Tid) = Some (AnyName ∷ Just Semicolon ∷ Locals ∷ [])
first Locals _ = None
first Parameters (AKeyword keyword.Int) = Some (AnyName ∷ OtherParameters ∷ [])
first Parameters _ = None
first OtherParameters (ASign Comma) = Some (AnInt ∷ AnyName ∷ OtherParameters ∷ [])
first OtherParameters _ = None
first Globals (AKeyword keyword.Int) = Some (AnyName ∷ AfterGlobal ∷ Globals ∷ [])
first Globals (AKeyword keyword.Mutex) = Some (AnyName ∷ Just Semicolon ∷ Globals ∷ [])
first Globals (AKeyword keyword.Cond) = Some (AnyName ∷ Just Semicolon ∷ Globals ∷ [])
first Globals (AKeyword keyword.Thread) = Some (a_thread ++ Threads ∷ [])
first Globals (AKeyword keyword.Main) = Some a_body
first Globals _ = None
first Threads (AKeyword keyword.Thread) = Some (a_thread ++ Threads ∷ [])
first Threads (AKeyword keyword.Main) = Some a_body
first Threads _ = None
first AfterGlobal (ASign Semicolon) = Some []
first AfterGlobal (ASign Assign) = Some (Initial ∷ [])
first AfterGlobal (ASign OpenBracket) = Some (AnyNumber ∷ Just CloseBracket ∷ Just Semicolon ∷ [])
first AfterGlobal _ = None
first Initial (ASign Minus) = Some (AnyNumber ∷ Just Semicolon ∷ [])
first Initial (ANumber n) = Some (Just Semicolon ∷ [])
first Initial _ = None

-- whether an expected part may be empty
abbrev pub skips : Expected → Bool
skips Subscript = true
skips Operators = true
skips Arguments = true
skips Others = true
skips Statements = true
skips Alternative = true
skips Locals = true
skips Parameters = true
skips OtherParameters = true
skips _ = false

-- what is expected after a word, or None if the word wasn't expected
abbrev pub step : List Expected → Word → Option (List Expected)
step [] w = None
step (x ∷ s) w =
    elim (first x w)
    [ Some es ↦ Some (es ++ s) | None ↦ elim (skips x) [ true ↦ step s w | false ↦ None ] ]

-- whether the text may end here
abbrev pub may_end : List Expected → Bool
may_end [] = true
may_end (x ∷ s) = elim (skips x) [ true ↦ may_end s | false ↦ false ]

abbrev pub at_end : Bool → Option ℕ
at_end true = None
at_end false = Some 0

-- how many words are left at the first unexpected one, or 0 for an early end; None without a fault
abbrev pub fault : Option (List Expected) → List Word → Option ℕ
fault None ws = Some (suc (length ws))
fault (Some s) [] = at_end (may_end s)
fault (Some s) (w ∷ ws) = fault (step s w) ws

-- how tightly an operator binds, or 0 without one
abbrev pub level_of : Option Operator → ℕ
level_of (Some op) = level op
level_of None = 0

abbrev pub next_level : List Word → ℕ
next_level [] = 0
next_level (w ∷ ws) = level_of (infix_of w)
