-- The machine passes over the words of a tree.
use Rattle.std.proofs.Common.{◌≡◌, Bool, true, false, List, [], ◌∷◌, Option, Some, None, refl, ◌∙◌}
use Rattle.tc_lexer.specs.declared.place.Place.{Place}
use Rattle.int_ops.specs.Updates.{operands_of}
use Rattle.int_ops.specs.declared.update.Update.{Update}
use Rattle.int_ops.specs.declared.update.Update.TheVariants as update
use Rattle.int_ops.specs.declared.arith.UnOp.TheVariants.{Neg, Not, Inv}
use Rattle.tc_lexer.specs.declared.token.Keyword.TheVariants as keyword
use Rattle.tc_lexer.specs.declared.token.Sign.{Sign}
use Rattle.tc_lexer.specs.declared.token.Sign.TheVariants as sign
use Rattle.tc_tree.specs.declared.expression.Operator.{Operator}
use Rattle.tc_tree.specs.declared.expression.Operator.TheVariants as operator
use Rattle.tc_tree.specs.declared.program.Initial.TheVariants.{Zero, Plain, Negated}
use Rattle.tc_tree.specs.Grammar.{Expression, Number, Variable, Element, Paren, Unary, Binary, Statement, Assign, Store, Create, Modify, Act, Wait, Order, Assert, While, If, Nil, Cons, Otherwise, Nothing, Else, ElseIf, Body, Thread, Program, binary_sign, expression_then, index_then, target_by, kind_of, others_then, list_then, statement_then, statements_then, otherwise_then, global_then, globals_then, locals_then, body_then, parameters_then, other_parameters_then, threads_then, program_words}
use Rattle.tc_tree.specs.declared.word.Word.TheVariants.{Name as AName, Keyword as AKeyword, Sign as ASign, End as AnEnd}
use Rattle.tc_tree.specs.declared.word.Word.{Word}
use Rattle.tc_tree.specs.declared.expression.Name.{Name}
use Rattle.tc_tree.specs.declared.program.Global.{Global}
use Rattle.tc_tree.specs.declared.program.Global.TheVariants.{Int, Array, Mutex, Condition}
use Rattle.tc_tree.specs.declared.program.Local.{Local}
use Rattle.tc_tree.specs.declared.program.Local.TheVariants.{Int as LocalInt, Handle}
use Rattle.tc_tree.specs.Grammar as grammar
use Rattle.tc_syntax.specs.helpers.Reading.{
  operator_of,
  Expected,
  Just,
  End,
  Operand,
  Subscript,
  Operators,
  Arguments,
  Others,
  Statements,
  AfterAssign,
  an_index,
  operands,
  Alternative,
  Locals,
  Parameters,
  OtherParameters,
  Globals,
  Threads,
  fault,
}
use Rattle.tc_syntax.proofs.Signs.{operator_is, sign_read}
use Rattle.tc_syntax.proofs.Updates.{update_goes}

-- whether `[` follows
abbrev pub opens : List Word → Bool
opens (ASign sign.OpenBracket ∷ ws) = true
opens _ = false

pub no_subscript : (ws : List Word) → opens ws ≡ false → (s : List Expected) → fault (Some (Subscript ∷ s)) ws ≡ fault (Some s) ws
no_subscript [] h s = refl
no_subscript (ASign sign.OpenBracket ∷ ws) h s = absurd cc
no_subscript (_ ∷ ws) h s = refl

operator_opens : (k : Sign) (op : Operator) (ws : List Word) → operator_of k ≡ Some op → opens (ASign k ∷ ws) ≡ false
operator_opens sign.OpenBracket op ws e = absurd cc
operator_opens _ op ws e = refl

pub sign_opens : (op : Operator) (ws : List Word) → opens (ASign (binary_sign op) ∷ ws) ≡ false
sign_opens op ws = operator_opens (binary_sign op) op ws (operator_is op)

pub expression_read : (e : Expression) (s : List Expected) (rest : List Word) → opens rest ≡ false
    → fault (Some (Operand ∷ Operators ∷ s)) (expression_then e rest) ≡ fault (Some (Operators ∷ s)) rest
expression_read (Number n) s rest h = refl
expression_read (Variable x) s rest h = no_subscript rest h (Operators ∷ s)
expression_read (Element a i) s rest h = expression_read i (Just sign.CloseBracket ∷ Operators ∷ s) (ASign sign.CloseBracket ∷ rest) refl
expression_read (Paren e) s rest h = expression_read e (Just sign.CloseParen ∷ Operators ∷ s) (ASign sign.CloseParen ∷ rest) refl
expression_read (Unary Neg e) s rest h = expression_read e s rest h
expression_read (Unary Not e) s rest h = expression_read e s rest h
expression_read (Unary Inv e) s rest h = expression_read e s rest h
expression_read (Binary op a b) s rest h =
    expression_read a s (ASign (binary_sign op) ∷ expression_then b rest) (sign_opens op (expression_then b rest))
    ∙ sign_read op s (expression_then b rest) ∙ expression_read b s rest h

-- an argument begins as any operand does
argument_goes : (e : Expression) (s : List Expected) (rest : List Word)
    → fault (Some (Arguments ∷ s)) (expression_then e rest) ≡ fault (Some (Operand ∷ Operators ∷ Others ∷ s)) (expression_then e rest)
argument_goes (Number n) s rest = refl
argument_goes (Variable x) s rest = refl
argument_goes (Element a i) s rest = refl
argument_goes (Paren e) s rest = refl
argument_goes (Unary Neg e) s rest = refl
argument_goes (Unary Not e) s rest = refl
argument_goes (Unary Inv e) s rest = refl
argument_goes (Binary op a b) s rest = argument_goes a s (ASign (binary_sign op) ∷ expression_then b rest)

-- an assigned value begins as any operand does
value_goes : (e : Expression) (s : List Expected) (rest : List Word)
    → fault (Some (AfterAssign ∷ s)) (expression_then e rest) ≡ fault (Some (Operand ∷ Operators ∷ Just sign.Semicolon ∷ s)) (expression_then e rest)
value_goes (Number n) s rest = refl
value_goes (Variable x) s rest = refl
value_goes (Element a i) s rest = refl
value_goes (Paren e) s rest = refl
value_goes (Unary Neg e) s rest = refl
value_goes (Unary Not e) s rest = refl
value_goes (Unary Inv e) s rest = refl
value_goes (Binary op a b) s rest = value_goes a s (ASign (binary_sign op) ∷ expression_then b rest)

others_open : (es : List Expression) (rest : List Word) → opens (others_then es (ASign sign.CloseParen ∷ rest)) ≡ false
others_open [] rest = refl
others_open (e ∷ es) rest = refl

others_read : (es : List Expression) (s : List Expected) (rest : List Word)
    → fault (Some (Operators ∷ Others ∷ Just sign.CloseParen ∷ s)) (others_then es (ASign sign.CloseParen ∷ rest)) ≡ fault (Some s) rest
others_read [] s rest = refl
others_read (e ∷ es) s rest =
    expression_read e (Others ∷ Just sign.CloseParen ∷ s) (others_then es (ASign sign.CloseParen ∷ rest)) (others_open es rest) ∙ others_read es s rest

pub list_read : (es : List Expression) (s : List Expected) (rest : List Word)
    → fault (Some (Arguments ∷ Just sign.CloseParen ∷ s)) (list_then es (ASign sign.CloseParen ∷ rest)) ≡ fault (Some s) rest
list_read [] s rest = refl
list_read (e ∷ es) s rest =
    argument_goes e (Just sign.CloseParen ∷ s) (others_then es (ASign sign.CloseParen ∷ rest))
    ∙ expression_read e (Others ∷ Just sign.CloseParen ∷ s) (others_then es (ASign sign.CloseParen ∷ rest)) (others_open es rest) ∙ others_read es s rest

-- ---- statements

index_read : (i : Option Expression) (s : List Expected) (rest : List Word)
    → fault (Some (an_index (target_by i) s)) (index_then i rest) ≡ fault (Some s) rest
index_read None s rest = refl
index_read (Some i) s rest = expression_read i (Just sign.CloseBracket ∷ s) (ASign sign.CloseBracket ∷ rest) refl

operands_read : (u : Update Expression) (s : List Expected) (rest : List Word)
    → fault (Some (operands (kind_of u) (Just sign.CloseParen ∷ s))) (others_then (operands_of u) (ASign sign.CloseParen ∷ rest)) ≡ fault (Some s) rest
operands_read (update.Swap e) s rest = expression_read e (Just sign.CloseParen ∷ s) (ASign sign.CloseParen ∷ rest) refl
operands_read (update.Cas e f) s rest =
    expression_read e (Just sign.Comma ∷ Operand ∷ Operators ∷ Just sign.CloseParen ∷ s) (ASign sign.Comma ∷ expression_then f (ASign sign.CloseParen ∷ rest)) refl
    ∙ expression_read f (Just sign.CloseParen ∷ s) (ASign sign.CloseParen ∷ rest) refl
operands_read (update.Add e) s rest = expression_read e (Just sign.CloseParen ∷ s) (ASign sign.CloseParen ∷ rest) refl

-- whether `else` follows
abbrev pub is_else : List Word → Bool
is_else (AKeyword keyword.Else ∷ ws) = true
is_else _ = false

pub no_alternative : (ws : List Word) → is_else ws ≡ false → (s : List Expected) → fault (Some (Alternative ∷ s)) ws ≡ fault (Some s) ws
no_alternative [] h s = refl
no_alternative (AKeyword keyword.Else ∷ ws) h s = absurd cc
no_alternative (_ ∷ ws) h s = refl

statement_begins : (a : Statement) (rest : List Word) → is_else (statement_then a rest) ≡ false
statement_begins (Assign x e) rest = refl
statement_begins (Store a i e) rest = refl
statement_begins (Create h f es) rest = refl
statement_begins (Modify r x i u) rest = refl
statement_begins (Act p a x) rest = refl
statement_begins (Wait p c m) rest = refl
statement_begins (Order p b) rest = refl
statement_begins (Assert p e) rest = refl
statement_begins (While p c b q) rest = refl
statement_begins (If p c b q o) rest = refl

pub statements_begin : (b : grammar.Statements) (rest : List Word) → is_else rest ≡ false → is_else (statements_then b rest) ≡ false
statements_begin Nil rest h = h
statements_begin (Cons a b) rest h = statement_begins a (statements_then b rest)

mutual
  pub statement_read : (a : Statement) (s : List Expected) (rest : List Word) → is_else rest ≡ false
      → fault (Some (Statements ∷ s)) (statement_then a rest) ≡ fault (Some (Statements ∷ s)) rest
  statement_read (Assign x e) s rest h = value_goes e (Statements ∷ s) (ASign sign.Semicolon ∷ rest)
      ∙ expression_read e (Just sign.Semicolon ∷ Statements ∷ s) (ASign sign.Semicolon ∷ rest) refl
  statement_read (Store a i e) s rest h =
      expression_read i (Just sign.CloseBracket ∷ Just sign.Assign ∷ Operand ∷ Operators ∷ Just sign.Semicolon ∷ Statements ∷ s)
      (ASign sign.CloseBracket ∷ ASign sign.Assign ∷ expression_then e (ASign sign.Semicolon ∷ rest)) refl
      ∙ expression_read e (Just sign.Semicolon ∷ Statements ∷ s) (ASign sign.Semicolon ∷ rest) refl
  statement_read (Create h f es) s rest g = list_read es (Just sign.Semicolon ∷ Statements ∷ s) (ASign sign.Semicolon ∷ rest)
  statement_read (Modify r x i u) s rest h =
      update_goes (kind_of u) (target_by i) (Statements ∷ s) (ASign sign.OpenParen ∷ AName x ∷ index_then i
      (others_then (operands_of u) (ASign sign.CloseParen ∷ ASign sign.Semicolon ∷ rest)))
      ∙ index_read i (operands (kind_of u) (Just sign.CloseParen ∷ Just sign.Semicolon ∷ Statements ∷ s))
      (others_then (operands_of u) (ASign sign.CloseParen ∷ ASign sign.Semicolon ∷ rest))
      ∙ operands_read u (Just sign.Semicolon ∷ Statements ∷ s) (ASign sign.Semicolon ∷ rest)
  statement_read (Act p a x) s rest h = refl
  statement_read (Wait p c m) s rest h = refl
  statement_read (Order p b) s rest h = refl
  statement_read (Assert p e) s rest h = expression_read e (Just sign.CloseParen ∷ Just sign.Semicolon ∷ Statements ∷ s)
      (ASign sign.CloseParen ∷ ASign sign.Semicolon ∷ rest) refl
  statement_read (While p c b q) s rest h =
      expression_read c (Just sign.CloseParen ∷ Just sign.OpenBrace ∷ Statements ∷ End ∷ Statements ∷ s)
      (ASign sign.CloseParen ∷ ASign sign.OpenBrace ∷ statements_then b (AnEnd q ∷ rest)) refl
      ∙ statements_read b (End ∷ Statements ∷ s) (AnEnd q ∷ rest) refl
  statement_read (If p c b q o) s rest h =
      expression_read c (Just sign.CloseParen ∷ Just sign.OpenBrace ∷ Statements ∷ End ∷ Alternative ∷ Statements ∷ s)
      (ASign sign.CloseParen ∷ ASign sign.OpenBrace ∷ statements_then b (AnEnd q ∷ otherwise_then o rest)) refl
      ∙ statements_read b (End ∷ Alternative ∷ Statements ∷ s) (AnEnd q ∷ otherwise_then o rest) refl
      ∙ otherwise_read o (Statements ∷ s) rest h

  pub statements_read : (b : grammar.Statements) (s : List Expected) (rest : List Word) → is_else rest ≡ false
      → fault (Some (Statements ∷ s)) (statements_then b rest) ≡ fault (Some (Statements ∷ s)) rest
  statements_read Nil s rest h = refl
  statements_read (Cons a b) s rest h = statement_read a s (statements_then b rest) (statements_begin b rest h) ∙ statements_read b s rest h

  pub otherwise_read : (o : Otherwise) (s : List Expected) (rest : List Word) → is_else rest ≡ false
      → fault (Some (Alternative ∷ s)) (otherwise_then o rest) ≡ fault (Some s) rest
  otherwise_read Nothing s rest h = no_alternative rest h s
  otherwise_read (Else b q) s rest h = statements_read b (End ∷ s) (AnEnd q ∷ rest) refl
  otherwise_read (ElseIf p c b q o) s rest h =
      expression_read c (Just sign.CloseParen ∷ Just sign.OpenBrace ∷ Statements ∷ End ∷ Alternative ∷ s)
      (ASign sign.CloseParen ∷ ASign sign.OpenBrace ∷ statements_then b (AnEnd q ∷ otherwise_then o rest)) refl
      ∙ statements_read b (End ∷ Alternative ∷ s) (AnEnd q ∷ otherwise_then o rest) refl
      ∙ otherwise_read o s rest h

-- ---- programs

locals_read : (ls : List Local) (s : List Expected) (rest : List Word) → fault (Some (Locals ∷ s)) (locals_then ls rest) ≡ fault (Some (Locals ∷ s)) rest
locals_read [] s rest = refl
locals_read (LocalInt x ∷ ls) s rest = locals_read ls s rest
locals_read (Handle x ∷ ls) s rest = locals_read ls s rest

-- what follows the declarations of a body
no_local : (b : grammar.Statements) (p : Place) (rest : List Word) (s : List Expected)
    → fault (Some (Locals ∷ Statements ∷ End ∷ s)) (statements_then b (AnEnd p ∷ rest)) ≡ fault (Some (Statements ∷ End ∷ s))
    (statements_then b (AnEnd p ∷ rest))
no_local Nil p rest s = refl
no_local (Cons (Assign x e) b) p rest s = refl
no_local (Cons (Store a i e) b) p rest s = refl
no_local (Cons (Create h f es) b) p rest s = refl
no_local (Cons (Modify r x i u) b) p rest s = refl
no_local (Cons (Act p' a x) b) p rest s = refl
no_local (Cons (Wait p' c m) b) p rest s = refl
no_local (Cons (Order p' o) b) p rest s = refl
no_local (Cons (Assert p' e) b) p rest s = refl
no_local (Cons (While p' c d q) b) p rest s = refl
no_local (Cons (If p' c d q o) b) p rest s = refl

body_read : (b : Body) (s : List Expected) (rest : List Word)
    → fault (Some (Just sign.OpenBrace ∷ Locals ∷ Statements ∷ End ∷ s)) (body_then b rest) ≡ fault (Some s) rest
body_read b s rest =
    locals_read b.locals (Statements ∷ End ∷ s) (statements_then b.statements (AnEnd b.end ∷ rest))
    ∙ no_local b.statements b.end rest s
    ∙ statements_read b.statements (End ∷ s) (AnEnd b.end ∷ rest) refl

other_parameters_read : (xs : List Name) (s : List Expected) (rest : List Word)
    → fault (Some (OtherParameters ∷ Just sign.CloseParen ∷ s)) (other_parameters_then xs (ASign sign.CloseParen ∷ rest)) ≡ fault (Some s) rest
other_parameters_read [] s rest = refl
other_parameters_read (x ∷ xs) s rest = other_parameters_read xs s rest

parameters_read : (xs : List Name) (s : List Expected) (rest : List Word)
    → fault (Some (Parameters ∷ Just sign.CloseParen ∷ s)) (parameters_then xs (ASign sign.CloseParen ∷ rest)) ≡ fault (Some s) rest
parameters_read [] s rest = refl
parameters_read (x ∷ xs) s rest = other_parameters_read xs s rest

threads_read : (ts : List Thread) (s : List Expected) (rest : List Word) → fault (Some (Threads ∷ s)) (threads_then ts rest) ≡ fault (Some (Threads ∷ s)) rest
threads_read [] s rest = refl
threads_read (t ∷ ts) s rest =
    parameters_read t.parameters (Just sign.OpenBrace ∷ Locals ∷ Statements ∷ End ∷ Threads ∷ s) (body_then t.body (threads_then ts rest))
    ∙ body_read t.body (Threads ∷ s) (threads_then ts rest) ∙ threads_read ts s rest

global_read : (g : Global) (s : List Expected) (rest : List Word) → fault (Some (Globals ∷ s)) (global_then g rest) ≡ fault (Some (Globals ∷ s)) rest
global_read (Int x Zero) s rest = refl
global_read (Int x (Plain n)) s rest = refl
global_read (Int x (Negated n)) s rest = refl
global_read (Array x n) s rest = refl
global_read (Mutex x) s rest = refl
global_read (Condition x) s rest = refl

globals_read : (gs : List Global) (s : List Expected) (rest : List Word) → fault (Some (Globals ∷ s)) (globals_then gs rest) ≡ fault (Some (Globals ∷ s)) rest
globals_read [] s rest = refl
globals_read (g ∷ gs) s rest = global_read g s (globals_then gs rest) ∙ globals_read gs s rest

-- threads or main follow the declarations
no_global : (ts : List Thread) (rest : List Word) (s : List Expected)
    → fault (Some (Globals ∷ s)) (threads_then ts (AKeyword keyword.Main ∷ rest)) ≡ fault (Some (Threads ∷ s)) (threads_then ts (AKeyword keyword.Main ∷ rest))
no_global [] rest s = refl
no_global (t ∷ ts) rest s = refl

pub program_read : (p : Program) → fault (Some (Globals ∷ [])) (program_words p) ≡ None
program_read p =
    globals_read p.globals [] (threads_then p.threads (AKeyword keyword.Main ∷ body_then p.main []))
    ∙ no_global p.threads (body_then p.main []) []
    ∙ threads_read p.threads [] (AKeyword keyword.Main ∷ body_then p.main [])
    ∙ body_read p.main [] []
