-- Programs as plain trees, and the tokens that spell them, followed by given tokens.
use Rattle.std.specs.Prelude.{◌≡◌, ℕ, ◌+◌, ◌<◌, ◌≤◌, List, [], ◌∷◌, ◌++◌, length, take, Option, Some, None}
use Rattle.tc_lexer.specs.declared.place.Place.{Place}
use Rattle.int_ops.specs.Updates.{operands_of}
use Rattle.int_ops.specs.declared.arith.UnOp.{UnOp}
use Rattle.int_ops.specs.declared.arith.UnOp.TheVariants.{Neg, Not, Inv}
use Rattle.int_ops.specs.declared.update.Update.{Update}
use Rattle.int_ops.specs.declared.update.Update.TheVariants as update
use Rattle.tc_lexer.specs.declared.token.Keyword.TheVariants as keyword
use Rattle.tc_lexer.specs.declared.token.Sign.{Sign as AnySign}
use Rattle.tc_lexer.specs.declared.token.Sign.TheVariants as sign
use Rattle.tc_tree.specs.declared.expression.Name.{Name}
use Rattle.tc_tree.specs.declared.expression.Number.{Number as AnyNumber}
use Rattle.tc_tree.specs.declared.expression.Operator.{Operator}
use Rattle.tc_tree.specs.declared.expression.Operator.TheVariants.{
  Multiply,
  Divide,
  Remainder,
  Add,
  Subtract,
  ShiftLeft,
  ShiftRight,
  Less,
  LessOrEqual,
  Greater,
  GreaterOrEqual,
  Equal,
  Unequal,
  BitAnd,
  BitXor,
  BitOr,
  And,
  Or,
}
use Rattle.tc_tree.specs.declared.statement.Action.{Action}
use Rattle.tc_tree.specs.declared.statement.Barrier.{Barrier}
use Rattle.tc_tree.specs.declared.statement.UpdateKind.{UpdateKind}
use Rattle.tc_tree.specs.declared.statement.UpdateKind.TheVariants as kind
use Rattle.tc_tree.specs.declared.statement.Target.{Target}
use Rattle.tc_tree.specs.declared.statement.Target.TheVariants as target
use Rattle.tc_tree.specs.declared.program.Initial.{Initial}
use Rattle.tc_tree.specs.declared.program.Initial.TheVariants.{Zero, Plain, Negated}
use Rattle.tc_tree.specs.declared.program.Global.{Global}
use Rattle.tc_tree.specs.declared.program.Global.TheVariants.{Int, Array, Mutex, Condition}
use Rattle.tc_tree.specs.declared.program.Local.{Local}
use Rattle.tc_tree.specs.declared.program.Local.TheVariants.{Int as LocalInt, Handle}
use Rattle.tc_tree.specs.declared.word.Word.{Word}
use Rattle.tc_tree.specs.declared.word.Word.TheVariants.{
  Name as AName,
  Number as ANumber,
  If as AnIf,
  While as AWhile,
  Action as AnAction,
  Wait as AWait,
  Barrier as ABarrier,
  Assert as AnAssert,
  Update as AnUpdate,
  Keyword as AKeyword,
  Sign as ASign,
  End as AnEnd,
}
use Rattle.tc_tree.specs.Words.{word_since}

-- ---- expressions

-- an expression, which keeps its parentheses
pub data Expression : Type 0 where
  Number : (number : AnyNumber) → Expression
  Variable : (name : Name) → Expression
  Element : (array : Name) (index : Expression) → Expression
  Paren : (inside : Expression) → Expression
  Unary : (op : UnOp) (operand : Expression) → Expression
  Binary : (op : Operator) (left right : Expression) → Expression

abbrev pub unary_sign : UnOp → AnySign
unary_sign Neg = sign.Minus
unary_sign Not = sign.Bang
unary_sign Inv = sign.Tilde

abbrev pub binary_sign : Operator → AnySign
binary_sign Multiply = sign.Star
binary_sign Divide = sign.Slash
binary_sign Remainder = sign.Percent
binary_sign Add = sign.Plus
binary_sign Subtract = sign.Minus
binary_sign ShiftLeft = sign.ShiftLeft
binary_sign ShiftRight = sign.ShiftRight
binary_sign Less = sign.Less
binary_sign LessOrEqual = sign.LessEqual
binary_sign Greater = sign.Greater
binary_sign GreaterOrEqual = sign.GreaterEqual
binary_sign Equal = sign.EqualEqual
binary_sign Unequal = sign.BangEqual
binary_sign BitAnd = sign.And
binary_sign BitXor = sign.Caret
binary_sign BitOr = sign.Or
binary_sign And = sign.AndAnd
binary_sign Or = sign.OrOr

abbrev pub expression_then : Expression → List Word → List Word
expression_then (Number n) rest = ANumber n ∷ rest
expression_then (Variable x) rest = AName x ∷ rest
expression_then (Element a i) rest =
    AName a ∷ ASign sign.OpenBracket ∷ expression_then i (ASign sign.CloseBracket ∷ rest)
expression_then (Paren e) rest =
    ASign sign.OpenParen ∷ expression_then e (ASign sign.CloseParen ∷ rest)
expression_then (Unary op e) rest = ASign (unary_sign op) ∷ expression_then e rest
expression_then (Binary op a b) rest =
    expression_then a (ASign (binary_sign op) ∷ expression_then b rest)

-- how tightly an operator binds, as in C
abbrev pub level : Operator → ℕ
level Multiply = 10
level Divide = 10
level Remainder = 10
level Add = 9
level Subtract = 9
level ShiftLeft = 8
level ShiftRight = 8
level Less = 7
level LessOrEqual = 7
level Greater = 7
level GreaterOrEqual = 7
level Equal = 6
level Unequal = 6
level BitAnd = 5
level BitXor = 4
level BitOr = 3
level And = 2
level Or = 1

-- the precedence of an expression: that of its outermost operator, or 12 without one
abbrev pub tightness : Expression → ℕ
tightness (Binary op a b) = level op
tightness (Unary op e) = 11
tightness _ = 12

-- each operand binds tightly enough for its operator; binary operators associate to the left
abbrev pub IsGrouped : Expression → Type 0
IsGrouped (Number n) = Unit {0}
IsGrouped (Variable x) = Unit {0}
IsGrouped (Element a i) = IsGrouped i
IsGrouped (Paren e) = IsGrouped e
IsGrouped (Unary op e) = (11 ≤ tightness e) × IsGrouped e
IsGrouped (Binary op a b) =
    (level op ≤ tightness a) × (level op < tightness b) × IsGrouped a × IsGrouped b

abbrev pub AreGrouped : List Expression → Type 0
AreGrouped [] = Unit {0}
AreGrouped (e ∷ es) = IsGrouped e × AreGrouped es

abbrev pub IsGroupedIndex : Option Expression → Type 0
IsGroupedIndex None = Unit {0}
IsGroupedIndex (Some i) = IsGrouped i

-- the expressions, each after a comma
abbrev pub others_then : List Expression → List Word → List Word
others_then [] rest = rest
others_then (e ∷ es) rest = ASign sign.Comma ∷ expression_then e (others_then es rest)

abbrev pub list_then : List Expression → List Word → List Word
list_then [] rest = rest
list_then (e ∷ es) rest = expression_then e (others_then es rest)

-- ---- statements

mutual
  pub data Statement : Type 0 where
    Assign : (name : Name) (value : Expression) → Statement
    Store : (array : Name) (index value : Expression) → Statement
    Create : (handle thread : Name) (arguments : List Expression) → Statement
    Modify : (local global : Name) (index : Option Expression) (update : Update Expression)
        → Statement
    Act : (place : Place) (action : Action) (name : Name) → Statement
    Wait : (place : Place) (condition mutex : Name) → Statement
    Order : (place : Place) (barrier : Barrier) → Statement
    Assert : (place : Place) (condition : Expression) → Statement
    While : (place : Place) (condition : Expression) (body : Statements) (end : Place) → Statement
    If : (place : Place) (condition : Expression) (body : Statements) (end : Place)
        (otherwise : Otherwise) → Statement

  pub data Statements : Type 0 where
    Nil : Statements
    Cons : (first : Statement) (others : Statements) → Statements

  -- what follows the body of an `if`
  pub data Otherwise : Type 0 where
    Nothing : Otherwise
    Else : (body : Statements) (end : Place) → Otherwise
    ElseIf : (place : Place) (condition : Expression) (body : Statements) (end : Place)
        (otherwise : Otherwise) → Otherwise

abbrev pub in_parens_then : Expression → List Word → List Word
in_parens_then e rest = ASign sign.OpenParen ∷ expression_then e (ASign sign.CloseParen ∷ rest)

-- what an update changes, by the index that it has or hasn't
abbrev pub target_by : Option Expression → Target
target_by None = target.Cell
target_by (Some i) = target.Element

abbrev pub kind_of : Update Expression → UpdateKind
kind_of (update.Swap e) = kind.Swap
kind_of (update.Cas e f) = kind.Cas
kind_of (update.Add e) = kind.Add

abbrev pub index_then : Option Expression → List Word → List Word
index_then None rest = rest
index_then (Some i) rest =
    ASign sign.OpenBracket ∷ expression_then i (ASign sign.CloseBracket ∷ rest)

abbrev mutual
  pub statement_then : Statement → List Word → List Word
  statement_then (Assign x e) rest =
      AName x ∷ ASign sign.Assign ∷ expression_then e (ASign sign.Semicolon ∷ rest)
  statement_then (Store a i e) rest = AName a ∷ ASign sign.OpenBracket ∷ expression_then i
      (ASign sign.CloseBracket ∷ ASign sign.Assign
      ∷ expression_then e (ASign sign.Semicolon ∷ rest))
  statement_then (Create h f es) rest =
      AName h ∷ ASign sign.Assign ∷ AKeyword keyword.Create ∷ AName f ∷ ASign sign.OpenParen
      ∷ list_then es
      (ASign sign.CloseParen ∷ ASign sign.Semicolon ∷ rest)
  statement_then (Modify r x i u) rest =
      AName r ∷ ASign sign.Assign ∷ AnUpdate (kind_of u) (target_by i) ∷ ASign sign.OpenParen
      ∷ AName x ∷ index_then i
      (others_then (operands_of u) (ASign sign.CloseParen ∷ ASign sign.Semicolon ∷ rest))
  statement_then (Act p a x) rest =
      AnAction a p ∷ ASign sign.OpenParen ∷ AName x ∷ ASign sign.CloseParen ∷ ASign sign.Semicolon
      ∷ rest
  statement_then (Wait p c m) rest =
      AWait p ∷ ASign sign.OpenParen ∷ AName c ∷ ASign sign.Comma ∷ AName m ∷ ASign sign.CloseParen
      ∷ ASign sign.Semicolon ∷ rest
  statement_then (Order p b) rest =
      ABarrier b p ∷ ASign sign.OpenParen ∷ ASign sign.CloseParen ∷ ASign sign.Semicolon ∷ rest
  statement_then (Assert p e) rest =
      AnAssert p ∷ ASign sign.OpenParen
      ∷ expression_then e (ASign sign.CloseParen ∷ ASign sign.Semicolon ∷ rest)
  statement_then (While p c b q) rest =
      AWhile p ∷ in_parens_then c (ASign sign.OpenBrace ∷ statements_then b (AnEnd q ∷ rest))
  statement_then (If p c b q o) rest =
      AnIf p ∷ in_parens_then c
      (ASign sign.OpenBrace ∷ statements_then b (AnEnd q ∷ otherwise_then o rest))

  pub statements_then : Statements → List Word → List Word
  statements_then Nil rest = rest
  statements_then (Cons s ss) rest = statement_then s (statements_then ss rest)

  pub otherwise_then : Otherwise → List Word → List Word
  otherwise_then Nothing rest = rest
  otherwise_then (Else b q) rest =
      AKeyword keyword.Else ∷ ASign sign.OpenBrace ∷ statements_then b (AnEnd q ∷ rest)
  otherwise_then (ElseIf p c b q o) rest = AKeyword keyword.Else ∷ AnIf p ∷ in_parens_then c
      (ASign sign.OpenBrace ∷ statements_then b (AnEnd q ∷ otherwise_then o rest))

abbrev mutual
  pub IsWell : Statement → Type 0
  IsWell (Assign x e) = IsGrouped e
  IsWell (Store a i e) = IsGrouped i × IsGrouped e
  IsWell (Create h f es) = AreGrouped es
  IsWell (Modify r x i u) = IsGroupedIndex i × AreGrouped (operands_of u)
  IsWell (Act p a x) = Unit {0}
  IsWell (Wait p c m) = Unit {0}
  IsWell (Order p b) = Unit {0}
  IsWell (Assert p e) = IsGrouped e
  IsWell (While p c b q) = IsGrouped c × AreWell b
  IsWell (If p c b q o) = IsGrouped c × AreWell b × IsWellOtherwise o

  pub AreWell : Statements → Type 0
  AreWell Nil = Unit {0}
  AreWell (Cons s ss) = IsWell s × AreWell ss

  pub IsWellOtherwise : Otherwise → Type 0
  IsWellOtherwise Nothing = Unit {0}
  IsWellOtherwise (Else b q) = AreWell b
  IsWellOtherwise (ElseIf p c b q o) = IsGrouped c × AreWell b × IsWellOtherwise o

-- ---- programs

pub record Body : Type 0 where
  pub locals : List Local
  pub statements : Statements
  pub end : Place

pub record Thread : Type 0 where
  pub name : Name
  pub parameters : List Name
  pub body : Body

pub record Program : Type 0 where
  pub globals : List Global
  pub threads : List Thread
  pub main : Body

abbrev pub initial_then : Initial → List Word → List Word
initial_then Zero rest = rest
initial_then (Plain n) rest = ASign sign.Assign ∷ ANumber n ∷ rest
initial_then (Negated n) rest = ASign sign.Assign ∷ ASign sign.Minus ∷ ANumber n ∷ rest

abbrev pub global_then : Global → List Word → List Word
global_then (Int x i) rest =
    AKeyword keyword.Int ∷ AName x ∷ initial_then i (ASign sign.Semicolon ∷ rest)
global_then (Array a n) rest =
    AKeyword keyword.Int ∷ AName a ∷ ASign sign.OpenBracket ∷ ANumber n ∷ ASign sign.CloseBracket
    ∷ ASign sign.Semicolon ∷ rest
global_then (Mutex m) rest = AKeyword keyword.Mutex ∷ AName m ∷ ASign sign.Semicolon ∷ rest
global_then (Condition c) rest = AKeyword keyword.Cond ∷ AName c ∷ ASign sign.Semicolon ∷ rest

abbrev pub globals_then : List Global → List Word → List Word
globals_then [] rest = rest
globals_then (g ∷ gs) rest = global_then g (globals_then gs rest)

abbrev pub local_then : Local → List Word → List Word
local_then (LocalInt x) rest = AKeyword keyword.Int ∷ AName x ∷ ASign sign.Semicolon ∷ rest
local_then (Handle x) rest = AKeyword keyword.Tid ∷ AName x ∷ ASign sign.Semicolon ∷ rest

abbrev pub locals_then : List Local → List Word → List Word
locals_then [] rest = rest
locals_then (l ∷ ls) rest = local_then l (locals_then ls rest)

abbrev pub body_then : Body → List Word → List Word
body_then b rest =
    ASign sign.OpenBrace ∷ locals_then b.locals (statements_then b.statements (AnEnd b.end ∷ rest))

-- the parameters, each after a comma
abbrev pub other_parameters_then : List Name → List Word → List Word
other_parameters_then [] rest = rest
other_parameters_then (x ∷ xs) rest =
    ASign sign.Comma ∷ AKeyword keyword.Int ∷ AName x ∷ other_parameters_then xs rest

abbrev pub parameters_then : List Name → List Word → List Word
parameters_then [] rest = rest
parameters_then (x ∷ xs) rest = AKeyword keyword.Int ∷ AName x ∷ other_parameters_then xs rest

abbrev pub thread_then : Thread → List Word → List Word
thread_then t rest =
    AKeyword keyword.Thread ∷ AName t.name ∷ ASign sign.OpenParen ∷ parameters_then t.parameters
    (ASign sign.CloseParen ∷ body_then t.body rest)

abbrev pub threads_then : List Thread → List Word → List Word
threads_then [] rest = rest
threads_then (t ∷ ts) rest = thread_then t (threads_then ts rest)

abbrev pub program_words : Program → List Word
program_words p =
    globals_then p.globals (threads_then p.threads (AKeyword keyword.Main ∷ body_then p.main []))

abbrev pub AreWellThreads : List Thread → Type 0
AreWellThreads [] = Unit {0}
AreWellThreads (t ∷ ts) = AreWell t.body.statements × AreWellThreads ts

-- every expression of the program is grouped according to precedence
abbrev pub IsWellProgram : Program → Type 0
IsWellProgram p = AreWellThreads p.threads × AreWell p.main.statements

abbrev pub AreOf : ℕ → List Word → Type 0
AreOf language [] = Unit {0}
AreOf language (w ∷ ws) = (word_since w ≤ language) × AreOf language ws

-- ---- the grammar of a language, by its number

-- the words spell the program, in this language
pub record IsSpelled (language : ℕ) (words : List Word) (p : Program) : Type 0 where
  pub spelled : words ≡ program_words p
  pub grouped : IsWellProgram p
  pub language_has : AreOf language words

-- some program begins with these words
pub record Begins (language : ℕ) (words : List Word) : Type 0 where
  pub program : Program
  pub more : List Word
  pub is : IsSpelled language (words ++ more) program

-- the first k words begin a program, with one more they don't, and the whole isn't a program
pub record IsSyntaxFault (language : ℕ) (words : List Word) (k : ℕ) : Type 0 where
  pub within : k ≤ length words
  pub before : Begins language (take k words)
  pub after : k < length words → Begins language (take (k + 1) words) → ⊥
  pub none : (p : Program) → IsSpelled language words p → ⊥
