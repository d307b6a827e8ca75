-- A program has no two neighbouring comparisons.
use Rattle.std.proofs.Common.{◌≡◌, Bool, true, false, List, [], ◌∷◌, Option, Some, None, refl}
use Rattle.tc_syntax.specs.int_ops.Updates.{operands_of}
use Rattle.tc_syntax.specs.int_ops.declared.arith.UnOp.TheVariants.{Neg, Not, Inv}
use Rattle.tc_syntax.specs.tc_lexer.declared.token.Keyword.TheVariants as keyword
use Rattle.tc_syntax.specs.tc_lexer.declared.token.Sign.TheVariants as sign
use Rattle.tc_syntax.specs.tc_tree.declared.expression.Name.{Name}
use Rattle.tc_syntax.specs.tc_tree.declared.program.Initial.TheVariants.{Zero, Plain, Negated}
use Rattle.tc_syntax.specs.tc_tree.declared.program.Global.{Global}
use Rattle.tc_syntax.specs.tc_tree.declared.program.Global.TheVariants.{Int, Array, Mutex, Condition}
use Rattle.tc_syntax.specs.tc_tree.declared.program.Local.{Local}
use Rattle.tc_syntax.specs.tc_tree.declared.program.Local.TheVariants.{Int as LocalInt, Handle}
use Rattle.tc_syntax.specs.tc_tree.declared.word.Word.{Word}
use Rattle.tc_syntax.specs.tc_tree.declared.word.Word.TheVariants.{Keyword as AKeyword, Sign as ASign, End as AnEnd}
use Rattle.tc_syntax.specs.tc_tree.Grammar.{
  Expression,
  Number,
  Variable,
  Element,
  Paren,
  Unary,
  Binary,
  binary_sign,
  expression_then,
  others_then,
  list_then,
  index_then,
  Statement,
  Assign,
  Store,
  Create,
  Modify,
  Act,
  Wait,
  Order,
  Assert,
  While,
  If,
  Statements,
  Nil,
  Cons,
  Otherwise,
  Nothing,
  Else,
  ElseIf,
  statement_then,
  statements_then,
  otherwise_then,
  Body,
  Thread,
  Program,
  global_then,
  globals_then,
  local_then,
  locals_then,
  body_then,
  other_parameters_then,
  parameters_then,
  threads_then,
  program_words,
}

abbrev pub compares : Word → Bool
compares (ASign sign.Less) = true
compares (ASign sign.LessEqual) = true
compares (ASign sign.Greater) = true
compares (ASign sign.GreaterEqual) = true
compares _ = false

abbrev pub begins_comparing : List Word → Bool
begins_comparing [] = false
begins_comparing (w ∷ ws) = compares w

-- no comparison follows another directly
abbrev pub AreApart : List Word → Type 0
AreApart [] = Unit {0}
AreApart (w ∷ ws) = (compares w ≡ true → begins_comparing ws ≡ false) × AreApart ws

never : (b : Bool) → false ≡ true → b ≡ false
never b h = absurd cc

-- ---- expressions

expression_begins : (e : Expression) (rest : List Word) → begins_comparing (expression_then e rest) ≡ false
expression_begins (Number n) rest = refl
expression_begins (Variable x) rest = refl
expression_begins (Element a i) rest = refl
expression_begins (Paren e) rest = refl
expression_begins (Unary Neg e) rest = refl
expression_begins (Unary Not e) rest = refl
expression_begins (Unary Inv e) rest = refl
expression_begins (Binary op a b) rest = expression_begins a (ASign (binary_sign op) ∷ expression_then b rest)

expression_apart : (e : Expression) (rest : List Word) → AreApart rest → AreApart (expression_then e rest)
expression_apart (Number n) rest h = (never _, h)
expression_apart (Variable x) rest h = (never _, h)
expression_apart (Element a i) rest h = (never _, (never _, expression_apart i (ASign sign.CloseBracket ∷ rest) (never _, h)))
expression_apart (Paren e) rest h = (never _, expression_apart e (ASign sign.CloseParen ∷ rest) (never _, h))
expression_apart (Unary op e) rest h = ((λ yes. expression_begins e rest), expression_apart e rest h)
expression_apart (Binary op a b) rest h =
    expression_apart a (ASign (binary_sign op) ∷ expression_then b rest) ((λ yes. expression_begins b rest), expression_apart b rest h)

others_apart : (es : List Expression) (rest : List Word) → AreApart rest → AreApart (others_then es rest)
others_apart [] rest h = h
others_apart (e ∷ es) rest h = (never _, expression_apart e (others_then es rest) (others_apart es rest h))

list_apart : (es : List Expression) (rest : List Word) → AreApart rest → AreApart (list_then es rest)
list_apart [] rest h = h
list_apart (e ∷ es) rest h = expression_apart e (others_then es rest) (others_apart es rest h)

index_apart : (i : Option Expression) (rest : List Word) → AreApart rest → AreApart (index_then i rest)
index_apart None rest h = h
index_apart (Some i) rest h = (never _, expression_apart i (ASign sign.CloseBracket ∷ rest) (never _, h))

-- ---- statements

closed : (rest : List Word) → AreApart rest → AreApart (ASign sign.CloseParen ∷ ASign sign.Semicolon ∷ rest)
closed rest h = (never _, (never _, h))

guarded : (e : Expression) (rest : List Word) → AreApart rest
    → AreApart (ASign sign.OpenParen ∷ expression_then e (ASign sign.CloseParen ∷ ASign sign.OpenBrace ∷ rest))
guarded e rest h = (never _, expression_apart e (ASign sign.CloseParen ∷ ASign sign.OpenBrace ∷ rest) (never _, (never _, h)))

mutual
  statement_apart : (a : Statement) (rest : List Word) → AreApart rest → AreApart (statement_then a rest)
  statement_apart (Assign x e) rest h = (never _, (never _, expression_apart e (ASign sign.Semicolon ∷ rest) (never _, h)))
  statement_apart (Store a i e) rest h = (
    never _,
    (
      never _,
      expression_apart i (ASign sign.CloseBracket ∷ ASign sign.Assign ∷ expression_then e (ASign sign.Semicolon ∷ rest))
          (never _, (never _, expression_apart e (ASign sign.Semicolon ∷ rest) (never _, h))),
    ),
  )
  statement_apart (Create x f es) rest h =
      (never _, (never _, (never _, (never _, (never _, list_apart es (ASign sign.CloseParen ∷ ASign sign.Semicolon ∷ rest) (closed rest h))))))
  statement_apart (Modify r x i u) rest h =
      (never _, (never _, (never _, (never _, (never _, index_apart i _ (others_apart (operands_of u) _ (closed rest h)))))))
  statement_apart (Act p a x) rest h = (never _, (never _, (never _, closed rest h)))
  statement_apart (Wait p c m) rest h = (never _, (never _, (never _, (never _, (never _, closed rest h)))))
  statement_apart (Order p b) rest h = (never _, (never _, closed rest h))
  statement_apart (Assert p e) rest h =
      (never _, (never _, expression_apart e (ASign sign.CloseParen ∷ ASign sign.Semicolon ∷ rest) (closed rest h)))
  statement_apart (While p c b q) rest h =
      (never _, guarded c (statements_then b (AnEnd q ∷ rest)) (statements_apart b (AnEnd q ∷ rest) (never _, h)))
  statement_apart (If p c b q o) rest h = (
    never _,
    guarded c (statements_then b (AnEnd q ∷ otherwise_then o rest))
        (statements_apart b (AnEnd q ∷ otherwise_then o rest) (never _, otherwise_apart o rest h)),
  )

  statements_apart : (b : Statements) (rest : List Word) → AreApart rest → AreApart (statements_then b rest)
  statements_apart Nil rest h = h
  statements_apart (Cons a b) rest h = statement_apart a (statements_then b rest) (statements_apart b rest h)

  otherwise_apart : (o : Otherwise) (rest : List Word) → AreApart rest → AreApart (otherwise_then o rest)
  otherwise_apart Nothing rest h = h
  otherwise_apart (Else b q) rest h = (never _, (never _, statements_apart b (AnEnd q ∷ rest) (never _, h)))
  otherwise_apart (ElseIf p c b q o) rest h = (
    never _,
    (
      never _,
      guarded c (statements_then b (AnEnd q ∷ otherwise_then o rest))
          (statements_apart b (AnEnd q ∷ otherwise_then o rest) (never _, otherwise_apart o rest h)),
    ),
  )

-- ---- programs

local_apart : (l : Local) (rest : List Word) → AreApart rest → AreApart (local_then l rest)
local_apart (LocalInt x) rest h = (never _, (never _, (never _, h)))
local_apart (Handle x) rest h = (never _, (never _, (never _, h)))

locals_apart : (ls : List Local) (rest : List Word) → AreApart rest → AreApart (locals_then ls rest)
locals_apart [] rest h = h
locals_apart (l ∷ ls) rest h = local_apart l (locals_then ls rest) (locals_apart ls rest h)

body_apart : (b : Body) (rest : List Word) → AreApart rest → AreApart (body_then b rest)
body_apart b rest h = (
  never _,
  locals_apart b.locals (statements_then b.statements (AnEnd b.end ∷ rest)) (statements_apart b.statements (AnEnd b.end ∷ rest) (never _, h)),
)

other_parameters_apart : (xs : List Name) (rest : List Word) → AreApart rest → AreApart (other_parameters_then xs rest)
other_parameters_apart [] rest h = h
other_parameters_apart (x ∷ xs) rest h = (never _, (never _, (never _, other_parameters_apart xs rest h)))

parameters_apart : (xs : List Name) (rest : List Word) → AreApart rest → AreApart (parameters_then xs rest)
parameters_apart [] rest h = h
parameters_apart (x ∷ xs) rest h = (never _, (never _, other_parameters_apart xs rest h))

threads_apart : (ts : List Thread) (rest : List Word) → AreApart rest → AreApart (threads_then ts rest)
threads_apart [] rest h = h
threads_apart (t ∷ ts) rest h = (
  never _,
  (
    never _,
    (
      never _,
      parameters_apart t.parameters (ASign sign.CloseParen ∷ body_then t.body (threads_then ts rest))
          (never _, body_apart t.body (threads_then ts rest) (threads_apart ts rest h)),
    ),
  ),
)

global_apart : (g : Global) (rest : List Word) → AreApart rest → AreApart (global_then g rest)
global_apart (Int x Zero) rest h = (never _, (never _, (never _, h)))
global_apart (Int x (Plain n)) rest h = (never _, (never _, (never _, (never _, (never _, h)))))
global_apart (Int x (Negated n)) rest h = (never _, (never _, (never _, (never _, (never _, (never _, h))))))
global_apart (Array a n) rest h = (never _, (never _, (never _, (never _, (never _, (never _, h))))))
global_apart (Mutex m) rest h = (never _, (never _, (never _, h)))
global_apart (Condition c) rest h = (never _, (never _, (never _, h)))

globals_apart : (gs : List Global) (rest : List Word) → AreApart rest → AreApart (globals_then gs rest)
globals_apart [] rest h = h
globals_apart (g ∷ gs) rest h = global_apart g (globals_then gs rest) (globals_apart gs rest h)

pub program_apart : (p : Program) → AreApart (program_words p)
program_apart p =
    globals_apart p.globals (threads_then p.threads (AKeyword keyword.Main ∷ body_then p.main []))
    (threads_apart p.threads (AKeyword keyword.Main ∷ body_then p.main []) (never _, body_apart p.main [] tt))
