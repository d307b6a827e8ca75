-- The rules on names never report a lack of memory.
use Rattle.std.proofs.Common.{ℕ, Bool, true, false, if◌then◌else◌, List, [], ◌∷◌, ◌++◌, length, map, nat_eq, Option, Some, None}
use Rattle.tc_lexer.specs.declared.place.Place.{Place}
use Rattle.tc_names.specs.declared.fault.NameFault.{NameFault}
use Rattle.tc_names.specs.declared.fault.NameFault.TheVariants.{Unknown, Twice, Kind, Arguments, Memory}
use Rattle.tc_names.specs.declared.scope.Declaration.{Declaration}
use Rattle.tc_names.specs.declared.scope.Meaning.{Meaning}
use Rattle.tc_names.specs.declared.scope.Meaning.TheVariants as meaning
use Rattle.int_ops.specs.Updates.{operands_of}
use Rattle.tc_tree.specs.declared.expression.Name.{Name}
use Rattle.tc_tree.specs.declared.program.Global.{Global}
use Rattle.tc_tree.specs.declared.program.Global.TheVariants.{Int, Array, Mutex, Condition}
use Rattle.tc_tree.specs.Grammar.{
  Expression,
  Number,
  Variable,
  Element,
  Paren,
  Unary,
  Binary,
  Statement,
  Assign,
  Store,
  Create,
  Modify,
  Act,
  Wait,
  Order,
  Assert,
  While,
  If,
  Statements,
  Nil,
  Cons,
  Otherwise,
  Nothing,
  Else,
  ElseIf,
  Body,
  Thread,
  Program,
}
use Rattle.tc_names.specs.Names.{
  ◌then◌,
  meaning_in,
  use_fault,
  name_fault,
  is_meaning,
  is_int,
  thread_use_fault,
  thread_fault,
  expression_fault,
  expressions_fault,
  target_fault,
  action_fits,
  statement_fault,
  statements_fault,
  otherwise_fault,
  twice_fault,
  global_name,
  global_declaration,
  thread_declaration,
  own_declarations,
  is_nought,
  size_fault,
  globals_fault,
  declarations_fault,
  program_declarations,
  body_fault,
  threads_fault,
  names_fault,
}

-- a fault of the text, or none
abbrev pub IsReal : Option NameFault → Type 0
IsReal (Some Memory) = ⊥
IsReal (Some (Unknown p)) = Unit {0}
IsReal (Some (Twice p)) = Unit {0}
IsReal (Some (Kind p)) = Unit {0}
IsReal (Some (Arguments p)) = Unit {0}
IsReal None = Unit {0}

both : (a b : Option NameFault) → IsReal a → IsReal b → IsReal (a then b)
both None b x y = y
both (Some f) b x y = x

unless : (b : Bool) (f : NameFault) → IsReal (Some f) → IsReal (if b then None else Some f)
unless true f h = tt
unless false f h = h

use_real : (o : Option Meaning) (fits : Meaning → Bool) (p : Place) → IsReal (use_fault o fits p)
use_real None fits p = tt
use_real (Some m) fits p = unless (fits m) (Kind p) tt

name_real : (fits : Meaning → Bool) (scope : Name → Option Meaning) (x : Name) → IsReal (name_fault fits scope x)
name_real fits scope x = use_real (scope x) fits x.place

thread_use_real : (o : Option Meaning) (n : ℕ) (p : Place) → IsReal (thread_use_fault o n p)
thread_use_real None n p = tt
thread_use_real (Some (meaning.Thread k)) n p = unless (nat_eq k n) (Arguments p) tt
thread_use_real (Some _) n p = tt

expression_real : (scope : Name → Option Meaning) (e : Expression) → IsReal (expression_fault scope e)
expression_real scope (Number n) = tt
expression_real scope (Variable x) = name_real is_int scope x
expression_real scope (Element a i) =
    both (name_fault (is_meaning meaning.Array) scope a) (expression_fault scope i) (name_real (is_meaning meaning.Array) scope a) (expression_real scope i)
expression_real scope (Paren e) = expression_real scope e
expression_real scope (Unary op e) = expression_real scope e
expression_real scope (Binary op a b) = both (expression_fault scope a) (expression_fault scope b) (expression_real scope a) (expression_real scope b)

expressions_real : (scope : Name → Option Meaning) (es : List Expression) → IsReal (expressions_fault scope es)
expressions_real scope [] = tt
expressions_real scope (e ∷ es) = both (expression_fault scope e) (expressions_fault scope es) (expression_real scope e) (expressions_real scope es)

named : (fits : Meaning → Bool) (scope : Name → Option Meaning) (x : Name) (b : Option NameFault) → IsReal b → IsReal (name_fault fits scope x then b)
named fits scope x b h = both (name_fault fits scope x) b (name_real fits scope x) h

valued : (scope : Name → Option Meaning) (e : Expression) (b : Option NameFault) → IsReal b → IsReal (expression_fault scope e then b)
valued scope e b h = both (expression_fault scope e) b (expression_real scope e) h

target_real : (scope : Name → Option Meaning) (x : Name) (i : Option Expression) → IsReal (target_fault scope x i)
target_real scope x None = name_real (is_meaning meaning.Global) scope x
target_real scope a (Some i) = named (is_meaning meaning.Array) scope a (expression_fault scope i) (expression_real scope i)

mutual
  statement_real : (scope : Name → Option Meaning) (a : Statement) → IsReal (statement_fault scope a)
  statement_real scope (Assign x e) = named is_int scope x (expression_fault scope e) (expression_real scope e)
  statement_real scope (Store a i e) = named (is_meaning meaning.Array) scope a (expression_fault scope i then expression_fault scope e)
      (valued scope i (expression_fault scope e) (expression_real scope e))
  statement_real scope (Create h f es) = named (is_meaning meaning.Handle) scope h (thread_fault scope f (length es) then expressions_fault scope es)
      (both (thread_fault scope f (length es)) (expressions_fault scope es) (thread_use_real (scope f) (length es) f.place) (expressions_real scope es))
  statement_real scope (Modify r x i u) = named (is_meaning meaning.Local) scope r (target_fault scope x i then expressions_fault scope (operands_of u))
      (both (target_fault scope x i) (expressions_fault scope (operands_of u)) (target_real scope x i) (expressions_real scope (operands_of u)))
  statement_real scope (Act p a x) = name_real (action_fits a) scope x
  statement_real scope (Wait p c m) = named (is_meaning meaning.Condition) scope c (name_fault (is_meaning meaning.Mutex) scope m)
      (name_real (is_meaning meaning.Mutex) scope m)
  statement_real scope (Order p b) = tt
  statement_real scope (Assert p e) = expression_real scope e
  statement_real scope (While p c b q) = valued scope c (statements_fault scope b) (statements_real scope b)
  statement_real scope (If p c b q o) = valued scope c (statements_fault scope b then otherwise_fault scope o)
      (both (statements_fault scope b) (otherwise_fault scope o) (statements_real scope b) (otherwise_real scope o))

  statements_real : (scope : Name → Option Meaning) (b : Statements) → IsReal (statements_fault scope b)
  statements_real scope Nil = tt
  statements_real scope (Cons a b) = both (statement_fault scope a) (statements_fault scope b) (statement_real scope a) (statements_real scope b)

  otherwise_real : (scope : Name → Option Meaning) (o : Otherwise) → IsReal (otherwise_fault scope o)
  otherwise_real scope Nothing = tt
  otherwise_real scope (Else b q) = statements_real scope b
  otherwise_real scope (ElseIf p c b q o) = valued scope c (statements_fault scope b then otherwise_fault scope o)
      (both (statements_fault scope b) (otherwise_fault scope o) (statements_real scope b) (otherwise_real scope o))

twice_or : (o : Option Meaning) (p : Place) → IsReal (elim o [ Some m ↦ Some (Twice p) | None ↦ None ])
twice_or None p = tt
twice_or (Some m) p = tt

twice_real : (source : List ℕ) (earlier : List Declaration) (x : Name) → IsReal (twice_fault source earlier x)
twice_real source earlier x = twice_or (meaning_in source earlier x) x.place

size_or : (b : Bool) (p : Place) → IsReal (if b then Some (Kind p) else None)
size_or true p = tt
size_or false p = tt

size_real : (g : Global) → IsReal (size_fault g)
size_real (Array x n) = size_or (is_nought n.value) n.place
size_real (Int x i) = tt
size_real (Mutex x) = tt
size_real (Condition x) = tt

globals_real : (source : List ℕ) (earlier : List Declaration) (gs : List Global) → IsReal (globals_fault source earlier gs)
globals_real source earlier [] = tt
globals_real source earlier (g ∷ gs) =
    let later = earlier ++ global_declaration g ∷ [] in
    both (twice_fault source earlier (global_name g)) (size_fault g then globals_fault source later gs) (twice_real source earlier (global_name g))
    (both (size_fault g) (globals_fault source later gs) (size_real g) (globals_real source later gs))

declarations_real : (source : List ℕ) (earlier ds : List Declaration) → IsReal (declarations_fault source earlier ds)
declarations_real source earlier [] = tt
declarations_real source earlier (d ∷ ds) =
    both (twice_fault source earlier d.name) (declarations_fault source (earlier ++ d ∷ []) ds) (twice_real source earlier d.name)
    (declarations_real source (earlier ++ d ∷ []) ds)

body_real : (source : List ℕ) (all : List Declaration) (parameters : List Name) (b : Body) → IsReal (body_fault source all parameters b)
body_real source all parameters b =
    let own = own_declarations parameters b.locals in
    both (declarations_fault source [] own) (statements_fault (meaning_in source (own ++ all)) b.statements) (declarations_real source [] own)
    (statements_real (meaning_in source (own ++ all)) b.statements)

threads_real : (source : List ℕ) (all earlier : List Declaration) (ts : List Thread) → IsReal (threads_fault source all earlier ts)
threads_real source all earlier [] = tt
threads_real source all earlier (t ∷ ts) =
    let later = earlier ++ thread_declaration t ∷ [] in
    both (twice_fault source earlier t.name) (body_fault source all t.parameters t.body then threads_fault source all later ts)
    (twice_real source earlier t.name)
    (both (body_fault source all t.parameters t.body) (threads_fault source all later ts) (body_real source all t.parameters t.body)
    (threads_real source all later ts))

pub names_real : (source : List ℕ) (p : Program) → IsReal (names_fault source p)
names_real source p =
    let all = program_declarations p in
    let earlier = map global_declaration p.globals in
    both (globals_fault source [] p.globals) (threads_fault source all earlier p.threads then body_fault source all [] p.main)
    (globals_real source [] p.globals)
    (both (threads_fault source all earlier p.threads) (body_fault source all [] p.main) (threads_real source all earlier p.threads)
    (body_real source all [] p.main))
