-- The rules for names: the first token of a program, in the order of its text, that breaks one.
use Rattle.std.specs.Prelude.{ℕ, ℤ, pos, nat_eq, Bool, true, false, List, [], ◌∷◌, ◌++◌, length, map, Option, Some, None, bytes_eq, slice_range, if◌then◌else◌}
use Rattle.tc_lexer.specs.declared.place.Place.{Place}
use Rattle.tc_tree.specs.declared.statement.Action.{Action}
use Rattle.tc_tree.specs.declared.statement.Action.TheVariants.{Join, Lock, Unlock, Signal, Broadcast}
use Rattle.tc_names.specs.declared.fault.NameFault.{NameFault}
use Rattle.tc_names.specs.declared.fault.NameFault.TheVariants.{Unknown, Twice, Kind, Arguments}
use Rattle.tc_names.specs.declared.scope.Declaration.{Declaration}
use Rattle.tc_names.specs.declared.scope.Meaning.{Meaning}
use Rattle.tc_names.specs.declared.scope.Meaning.TheVariants as meaning
use Rattle.tc_tree.specs.declared.expression.Name.{Name}
use Rattle.tc_tree.specs.declared.program.Global.{Global}
use Rattle.tc_tree.specs.declared.program.Global.TheVariants.{Int, Array, Mutex, Condition}
use Rattle.tc_tree.specs.declared.program.Local.{Local}
use Rattle.tc_tree.specs.declared.program.Local.TheVariants.{Int as LocalInt, Handle}
use Rattle.int_ops.specs.Updates.{operands_of}
use Rattle.tc_tree.specs.Grammar.{
  Expression,
  Number,
  Variable,
  Element,
  Paren,
  Unary,
  Binary,
  Statement,
  Assign,
  Store,
  Create,
  Modify,
  Act,
  Wait,
  Order,
  Assert,
  While,
  If,
  Statements,
  Nil,
  Cons,
  Otherwise,
  Nothing,
  Else,
  ElseIf,
  Body,
  Thread,
  Program,
}

-- the first fault if there is one, otherwise the later one
infixr 5 ◌then◌
abbrev pub ◌then◌ : Option NameFault → Option NameFault → Option NameFault
Some f then later = Some f
None then later = later

-- the bytes of a name in this text
abbrev pub name_text : List ℕ → Name → List ℕ
name_text source x = slice_range source x.start x.end

-- the meaning of a name: that of its first declaration
abbrev pub meaning_in : List ℕ → List Declaration → Name → Option Meaning
meaning_in source [] x = None
meaning_in source (d ∷ ds) x =
    if bytes_eq (name_text source d.name) (name_text source x) then Some d.meaning
    else meaning_in source ds x

-- ---- uses, in a scope that says what a name means

abbrev pub use_fault : Option Meaning → (Meaning → Bool) → Place → Option NameFault
use_fault None fits p = Some (Unknown p)
use_fault (Some m) fits p = if fits m then None else Some (Kind p)

abbrev pub name_fault : (Meaning → Bool) → (Name → Option Meaning) → Name → Option NameFault
name_fault fits scope x = use_fault (scope x) fits x.place

-- whether two meanings are the same
abbrev pub is_meaning : Meaning → Meaning → Bool
is_meaning meaning.Global meaning.Global = true
is_meaning meaning.Array meaning.Array = true
is_meaning meaning.Mutex meaning.Mutex = true
is_meaning meaning.Condition meaning.Condition = true
is_meaning (meaning.Thread m) (meaning.Thread n) = nat_eq m n
is_meaning meaning.Parameter meaning.Parameter = true
is_meaning meaning.Local meaning.Local = true
is_meaning meaning.Handle meaning.Handle = true
is_meaning _ _ = false

-- whether the meaning is an int: a global, a parameter or an int of the body
abbrev pub is_int : Meaning → Bool
is_int meaning.Global = true
is_int meaning.Parameter = true
is_int meaning.Local = true
is_int _ = false

-- the fault of a create: its name is unknown, no thread, or has another number of parameters
abbrev pub thread_use_fault : Option Meaning → ℕ → Place → Option NameFault
thread_use_fault None n p = Some (Unknown p)
thread_use_fault (Some (meaning.Thread parameters)) n p =
    if nat_eq parameters n then None else Some (Arguments p)
thread_use_fault (Some _) n p = Some (Kind p)

abbrev pub thread_fault : (Name → Option Meaning) → Name → ℕ → Option NameFault
thread_fault scope f n = thread_use_fault (scope f) n f.place

abbrev pub expression_fault : (Name → Option Meaning) → Expression → Option NameFault
expression_fault scope (Number n) = None
expression_fault scope (Variable x) = name_fault is_int scope x
expression_fault scope (Element a i) =
    name_fault (is_meaning meaning.Array) scope a then expression_fault scope i
expression_fault scope (Paren e) = expression_fault scope e
expression_fault scope (Unary op e) = expression_fault scope e
expression_fault scope (Binary op a b) = expression_fault scope a then expression_fault scope b

abbrev pub expressions_fault : (Name → Option Meaning) → List Expression → Option NameFault
expressions_fault scope [] = None
expressions_fault scope (e ∷ es) = expression_fault scope e then expressions_fault scope es

-- what an update changes: a global, or an element of an array
abbrev pub target_fault : (Name → Option Meaning) → Name → Option Expression → Option NameFault
target_fault scope x None = name_fault (is_meaning meaning.Global) scope x
target_fault scope a (Some i) =
    name_fault (is_meaning meaning.Array) scope a then expression_fault scope i

abbrev pub action_fits : Action → Meaning → Bool
action_fits Join = is_meaning meaning.Handle
action_fits Lock = is_meaning meaning.Mutex
action_fits Unlock = is_meaning meaning.Mutex
action_fits Signal = is_meaning meaning.Condition
action_fits Broadcast = is_meaning meaning.Condition

abbrev mutual
  pub statement_fault : (Name → Option Meaning) → Statement → Option NameFault
  statement_fault scope (Assign x e) = name_fault is_int scope x then expression_fault scope e
  statement_fault scope (Store a i e) =
      name_fault (is_meaning meaning.Array) scope a then expression_fault scope i
      then expression_fault scope e
  statement_fault scope (Create h f es) =
      name_fault (is_meaning meaning.Handle) scope h then thread_fault scope f (length es)
      then expressions_fault scope es
  statement_fault scope (Modify r x i u) =
      name_fault (is_meaning meaning.Local) scope r then target_fault scope x i
      then expressions_fault scope (operands_of u)
  statement_fault scope (Act p a x) = name_fault (action_fits a) scope x
  statement_fault scope (Wait p c m) =
      name_fault (is_meaning meaning.Condition) scope c
      then name_fault (is_meaning meaning.Mutex) scope m
  statement_fault scope (Order p b) = None
  statement_fault scope (Assert p e) = expression_fault scope e
  statement_fault scope (While p c b q) = expression_fault scope c then statements_fault scope b
  statement_fault scope (If p c b q o) =
      expression_fault scope c then statements_fault scope b then otherwise_fault scope o

  pub statements_fault : (Name → Option Meaning) → Statements → Option NameFault
  statements_fault scope Nil = None
  statements_fault scope (Cons s ss) = statement_fault scope s then statements_fault scope ss

  pub otherwise_fault : (Name → Option Meaning) → Otherwise → Option NameFault
  otherwise_fault scope Nothing = None
  otherwise_fault scope (Else b q) = statements_fault scope b
  otherwise_fault scope (ElseIf p c b q o) =
      expression_fault scope c then statements_fault scope b then otherwise_fault scope o

-- ---- declarations

-- the fault of a declared name that has an earlier declaration in its scope
abbrev pub twice_fault : List ℕ → List Declaration → Name → Option NameFault
twice_fault source earlier x =
    elim (meaning_in source earlier x) [ Some m ↦ Some (Twice x.place) | None ↦ None ]

abbrev pub global_name : Global → Name
global_name (Int x i) = x
global_name (Array x n) = x
global_name (Mutex x) = x
global_name (Condition x) = x

abbrev pub global_meaning : Global → Meaning
global_meaning (Int x i) = meaning.Global
global_meaning (Array x n) = meaning.Array
global_meaning (Mutex x) = meaning.Mutex
global_meaning (Condition x) = meaning.Condition

abbrev pub global_declaration : Global → Declaration
global_declaration g = record { name = global_name g; meaning = global_meaning g }

abbrev pub thread_declaration : Thread → Declaration
thread_declaration t = record { name = t.name; meaning = meaning.Thread (length t.parameters) }

abbrev pub parameter_declaration : Name → Declaration
parameter_declaration x = record { name = x; meaning = meaning.Parameter }

abbrev pub local_name : Local → Name
local_name (LocalInt x) = x
local_name (Handle x) = x

abbrev pub local_meaning : Local → Meaning
local_meaning (LocalInt x) = meaning.Local
local_meaning (Handle x) = meaning.Handle

abbrev pub local_declaration : Local → Declaration
local_declaration l = record { name = local_name l; meaning = local_meaning l }

-- whether a length is 0, which no array may have
abbrev pub is_nought : ℤ → Bool
is_nought (pos n) = nat_eq n 0
is_nought _ = false

abbrev pub size_fault : Global → Option NameFault
size_fault (Array x n) = if is_nought n.value then Some (Kind n.place) else None
size_fault _ = None

-- the first fault of these globals, which come after the earlier declarations
abbrev pub globals_fault : List ℕ → List Declaration → List Global → Option NameFault
globals_fault source earlier [] = None
globals_fault source earlier (g ∷ gs) = twice_fault source earlier (global_name g) then size_fault g
    then globals_fault source (earlier ++ global_declaration g ∷ []) gs

-- a body's own declarations: its parameters, then its locals
abbrev pub own_declarations : List Name → List Local → List Declaration
own_declarations parameters locals =
    map parameter_declaration parameters ++ map local_declaration locals

-- the first fault of these declarations, which come after the earlier ones
abbrev pub declarations_fault : List ℕ → List Declaration → List Declaration → Option NameFault
declarations_fault source earlier [] = None
declarations_fault source earlier (d ∷ ds) =
    twice_fault source earlier d.name then declarations_fault source (earlier ++ d ∷ []) ds

-- ---- programs

-- the declarations of the whole program: its globals and its threads
abbrev pub program_declarations : Program → List Declaration
program_declarations p = map global_declaration p.globals ++ map thread_declaration p.threads

-- the first fault of a body, whose own declarations shadow those of the program
abbrev pub body_fault : List ℕ → List Declaration → List Name → Body → Option NameFault
body_fault source all parameters b =
    let own = own_declarations parameters b.locals in
    declarations_fault source [] own
    then statements_fault (meaning_in source (own ++ all)) b.statements

abbrev pub threads_fault : List ℕ → List Declaration → List Declaration → List Thread
    → Option NameFault
threads_fault source all earlier [] = None
threads_fault source all earlier (t ∷ ts) =
    twice_fault source earlier t.name then body_fault source all t.parameters t.body
    then threads_fault source all (earlier ++ thread_declaration t ∷ []) ts

-- the first fault of a program's names, in this text
abbrev pub names_fault : List ℕ → Program → Option NameFault
names_fault source p =
    let all = program_declarations p in
    globals_fault source [] p.globals
    then threads_fault source all (map global_declaration p.globals) p.threads
    then body_fault source all [] p.main
