-- Words are at most one program.
use Rattle.std.proofs.Common.{◌≡◌, ℕ, true, false, List, [], ◌∷◌, drop, refl, sym, ap, ◌∙◌}
use Rattle.tc_syntax.specs.tc_lexer.declared.place.Place.{Place}
use Rattle.tc_syntax.specs.tc_lexer.declared.token.Keyword.TheVariants as keyword
use Rattle.tc_syntax.specs.tc_lexer.declared.token.Sign.TheVariants as sign
use Rattle.tc_syntax.specs.tc_tree.declared.expression.Name.{Name}
use Rattle.tc_syntax.specs.tc_tree.declared.program.Initial.TheVariants.{Zero, Plain, Negated}
use Rattle.tc_syntax.specs.tc_tree.declared.program.Global.{Global}
use Rattle.tc_syntax.specs.tc_tree.declared.program.Global.TheVariants.{Int, Array, Mutex, Condition}
use Rattle.tc_syntax.specs.tc_tree.declared.program.Local.{Local}
use Rattle.tc_syntax.specs.tc_tree.declared.program.Local.TheVariants.{Int as LocalInt, Handle}
use Rattle.tc_syntax.specs.tc_tree.declared.word.Word.{Word}
use Rattle.tc_syntax.specs.tc_tree.declared.word.Word.TheVariants.{Keyword as AKeyword, Sign as ASign, End as AnEnd}
use Rattle.tc_syntax.specs.tc_tree.Grammar.{
  Assign,
  Store,
  Create,
  Modify,
  Act,
  Wait,
  Order,
  Assert,
  While,
  If,
  Statements,
  Nil,
  Cons,
  statements_then,
  AreWell,
  Body,
  Thread,
  Program,
  global_then,
  globals_then,
  local_then,
  locals_then,
  body_then,
  other_parameters_then,
  parameters_then,
  thread_then,
  threads_then,
  program_words,
  AreWellThreads,
  IsWellProgram,
  IsSpelled,
}
use Rattle.tc_syntax.specs.helpers.Read.{begins_global, begins_local}
use Rattle.tc_grammar.proofs.Statements.{statements_same}

-- ---- declarations of a body

local_begins : (l : Local) (rest : List Word) → begins_local (local_then l rest) ≡ true
local_begins (LocalInt x) rest = refl
local_begins (Handle x) rest = refl

statements_begin : (b : Statements) (p : Place) (rest : List Word) → begins_local (statements_then b (AnEnd p ∷ rest)) ≡ false
statements_begin Nil p rest = refl
statements_begin (Cons (Assign x e) b) p rest = refl
statements_begin (Cons (Store a i e) b) p rest = refl
statements_begin (Cons (Create h f es) b) p rest = refl
statements_begin (Cons (Modify r x i u) b) p rest = refl
statements_begin (Cons (Act q a x) b) p rest = refl
statements_begin (Cons (Wait q c m) b) p rest = refl
statements_begin (Cons (Order q o) b) p rest = refl
statements_begin (Cons (Assert q e) b) p rest = refl
statements_begin (Cons (While q c d z) b) p rest = refl
statements_begin (Cons (If q c d z o) b) p rest = refl

local_same : (l m : Local) (r s : List Word) → local_then l r ≡ local_then m s → (l ≡ m) × (r ≡ s)
local_same (LocalInt x) (LocalInt y) r s is = (cc, cc)
local_same (Handle x) (Handle y) r s is = (cc, cc)
local_same _ _ r s is = absurd cc

locals_same : (ls ms : List Local) (r s : List Word) → begins_local r ≡ false → begins_local s ≡ false → locals_then ls r ≡ locals_then ms s
    → (ls ≡ ms) × (r ≡ s)
locals_same [] [] r s h k is = (refl, is)
locals_same [] (m ∷ ms) r s h k is =
    let yes : begins_local r ≡ true = ap begins_local is ∙ local_begins m (locals_then ms s) in
    absurd cc
locals_same (l ∷ ls) [] r s h k is =
    let yes : begins_local s ≡ true = sym (ap begins_local is) ∙ local_begins l (locals_then ls r) in
    absurd cc
locals_same (l ∷ ls) (m ∷ ms) r s h k is =
    let first = local_same l m (locals_then ls r) (locals_then ms s) is in
    let others = locals_same ls ms r s h k first.1 in
    (cc, others.1)

body_is : (a b : Body) → a.locals ≡ b.locals → a.statements ≡ b.statements → a.end ≡ b.end → a ≡ b
body_is a b l s e =
    ap (λ (x : List Local). record { locals = x; statements = a.statements; end = a.end }) l
    ∙ ap (λ (x : Statements). record { locals = b.locals; statements = x; end = a.end }) s
    ∙ ap (λ (x : Place). record { locals = b.locals; statements = b.statements; end = x }) e

body_same : (a b : Body) (r s : List Word) → AreWell a.statements → AreWell b.statements → body_then a r ≡ body_then b s → (a ≡ b) × (r ≡ s)
body_same a b r s g h is =
    let locals = locals_same a.locals b.locals (statements_then a.statements (AnEnd a.end ∷ r)) (statements_then b.statements (AnEnd b.end ∷ s))
    (statements_begin a.statements a.end r) (statements_begin b.statements b.end s) (ap (drop 1) is) in
    let statements = statements_same a.statements b.statements a.end b.end r s g h locals.1 in
    (body_is a b locals.0 statements.0 statements.1, statements.2)

-- ---- threads

other_parameters_same : (xs ys : List Name) (r s : List Word)
    → other_parameters_then xs (ASign sign.CloseParen ∷ r) ≡ other_parameters_then ys (ASign sign.CloseParen ∷ s) → (xs ≡ ys) × (r ≡ s)
other_parameters_same [] [] r s is = (refl, cc)
other_parameters_same [] (y ∷ ys) r s is = absurd cc
other_parameters_same (x ∷ xs) [] r s is = absurd cc
other_parameters_same (x ∷ xs) (y ∷ ys) r s is =
    let others = other_parameters_same xs ys r s (ap (drop 3) is) in
    (cc, others.1)

parameters_same : (xs ys : List Name) (r s : List Word)
    → parameters_then xs (ASign sign.CloseParen ∷ r) ≡ parameters_then ys (ASign sign.CloseParen ∷ s) → (xs ≡ ys) × (r ≡ s)
parameters_same [] [] r s is = (refl, cc)
parameters_same [] (y ∷ ys) r s is = absurd cc
parameters_same (x ∷ xs) [] r s is = absurd cc
parameters_same (x ∷ xs) (y ∷ ys) r s is =
    let others = other_parameters_same xs ys r s (ap (drop 2) is) in
    (cc, others.1)

thread_is : (t u : Thread) → t.name ≡ u.name → t.parameters ≡ u.parameters → t.body ≡ u.body → t ≡ u
thread_is t u n p b =
    ap (λ (x : Name). record { name = x; parameters = t.parameters; body = t.body }) n
    ∙ ap (λ (x : List Name). record { name = u.name; parameters = x; body = t.body }) p
    ∙ ap (λ (x : Body). record { name = u.name; parameters = u.parameters; body = x }) b

thread_same : (t u : Thread) (r s : List Word) → AreWell t.body.statements → AreWell u.body.statements → thread_then t r ≡ thread_then u s
    → (t ≡ u) × (r ≡ s)
thread_same t u r s g h is =
    let parameters = parameters_same t.parameters u.parameters (body_then t.body r) (body_then u.body s) (ap (drop 3) is) in
    let body = body_same t.body u.body r s g h parameters.1 in
    (thread_is t u (cc) parameters.0 body.0, body.1)

threads_same : (ts us : List Thread) (r s : List Word) → AreWellThreads ts → AreWellThreads us
    → threads_then ts (AKeyword keyword.Main ∷ r) ≡ threads_then us (AKeyword keyword.Main ∷ s) → (ts ≡ us) × (r ≡ s)
threads_same [] [] r s g h is = (refl, cc)
threads_same [] (u ∷ us) r s g h is = absurd cc
threads_same (t ∷ ts) [] r s g h is = absurd cc
threads_same (t ∷ ts) (u ∷ us) r s g h is =
    let first = thread_same t u (threads_then ts (AKeyword keyword.Main ∷ r)) (threads_then us (AKeyword keyword.Main ∷ s)) g.0 h.0 is in
    let others = threads_same ts us r s g.1 h.1 first.1 in
    (cc, others.1)

-- ---- global declarations

global_same : (g h : Global) (r s : List Word) → global_then g r ≡ global_then h s → (g ≡ h) × (r ≡ s)
global_same (Int x Zero) (Int y Zero) r s is = (cc, cc)
global_same (Int x (Plain m)) (Int y (Plain n)) r s is = (cc, cc)
global_same (Int x (Negated m)) (Int y (Negated n)) r s is = (cc, cc)
global_same (Array a m) (Array b n) r s is = (cc, cc)
global_same (Mutex m) (Mutex n) r s is = (cc, cc)
global_same (Condition c) (Condition d) r s is = (cc, cc)
global_same (Int x Zero) _ r s is = absurd cc
global_same (Int x (Plain m)) _ r s is = absurd cc
global_same (Int x (Negated m)) _ r s is = absurd cc
global_same (Array a m) (Int y Zero) r s is = absurd cc
global_same (Array a m) (Int y (Plain n)) r s is = absurd cc
global_same (Array a m) (Int y (Negated n)) r s is = absurd cc
global_same _ _ r s is = absurd cc

global_begins : (g : Global) (rest : List Word) → begins_global (global_then g rest) ≡ true
global_begins (Int x i) rest = refl
global_begins (Array a n) rest = refl
global_begins (Mutex m) rest = refl
global_begins (Condition c) rest = refl

threads_begin : (ts : List Thread) (rest : List Word) → begins_global (threads_then ts (AKeyword keyword.Main ∷ rest)) ≡ false
threads_begin [] rest = refl
threads_begin (t ∷ ts) rest = refl

globals_same : (gs hs : List Global) (r s : List Word) → begins_global r ≡ false → begins_global s ≡ false → globals_then gs r ≡ globals_then hs s
    → (gs ≡ hs) × (r ≡ s)
globals_same [] [] r s x y is = (refl, is)
globals_same [] (h ∷ hs) r s x y is =
    let yes : begins_global r ≡ true = ap begins_global is ∙ global_begins h (globals_then hs s) in
    absurd cc
globals_same (g ∷ gs) [] r s x y is =
    let yes : begins_global s ≡ true = sym (ap begins_global is) ∙ global_begins g (globals_then gs r) in
    absurd cc
globals_same (g ∷ gs) (h ∷ hs) r s x y is =
    let first = global_same g h (globals_then gs r) (globals_then hs s) is in
    let others = globals_same gs hs r s x y first.1 in
    (cc, others.1)

-- ---- programs

program_is : (p q : Program) → p.globals ≡ q.globals → p.threads ≡ q.threads → p.main ≡ q.main → p ≡ q
program_is p q g t m =
    ap (λ (x : List Global). record { globals = x; threads = p.threads; main = p.main }) g
    ∙ ap (λ (x : List Thread). record { globals = q.globals; threads = x; main = p.main }) t
    ∙ ap (λ (x : Body). record { globals = q.globals; threads = q.threads; main = x }) m

program_same : (p q : Program) → IsWellProgram p → IsWellProgram q → program_words p ≡ program_words q → p ≡ q
program_same p q g h is =
    let globals = globals_same p.globals q.globals (threads_then p.threads (AKeyword keyword.Main ∷ body_then p.main []))
    (threads_then q.threads (AKeyword keyword.Main ∷ body_then q.main [])) (threads_begin p.threads (body_then p.main []))
    (threads_begin q.threads (body_then q.main [])) is in
    let threads = threads_same p.threads q.threads (body_then p.main []) (body_then q.main []) g.0 h.0 globals.1 in
    let main = body_same p.main q.main [] [] g.1 h.1 threads.1 in
    program_is p q globals.0 threads.0 main.0

pub one_program : (language : ℕ) (ws : List Word) (p q : Program) → IsSpelled language ws p → IsSpelled language ws q → p ≡ q
one_program language ws p q x y = program_same p q x.grouped y.grouped (sym x.spelled ∙ y.spelled)
