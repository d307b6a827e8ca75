-- The steps of the readers' loops.
use Rattle.std.proofs.Common.{◌≡◌, ◌≢◌, ℕ, ◌+◌, ◌<◌, ◌≤◌, List, [], ◌∷◌, ◌++◌, length, Option, Some, None, refl, sym, ap, ◌∙◌, arith}
use Rattle.tc_lexer.specs.declared.place.Place.{Place}
use Rattle.tc_lexer.specs.declared.token.Keyword.TheVariants as keyword
use Rattle.tc_lexer.specs.declared.token.Sign.TheVariants as sign
use Rattle.tc_tree.specs.declared.expression.Name.{Name}
use Rattle.tc_tree.specs.declared.expression.Operator.{Operator}
use Rattle.tc_tree.specs.declared.program.Global.{Global}
use Rattle.tc_tree.specs.declared.program.Local.{Local}
use Rattle.tc_tree.specs.declared.word.Word.{Word}
use Rattle.tc_tree.specs.declared.statement.Target.{Target}
use Rattle.tc_tree.specs.declared.statement.UpdateKind.{UpdateKind}
use Rattle.tc_tree.specs.declared.word.Word.TheVariants.{Name as AName, If as AnIf, Keyword as AKeyword, Sign as ASign, Update as AnUpdate}
use Rattle.tc_tree.specs.Grammar.{
  Expression,
  Binary,
  binary_sign,
  expression_then,
  list_then,
  others_then,
  level,
  tightness,
  IsGrouped,
  AreGrouped,
  Statement,
  Assign,
  statement_then,
  statements_then,
  otherwise_then,
  IsWell,
  AreWell,
  IsWellOtherwise,
  global_then,
  globals_then,
  local_then,
  locals_then,
  parameters_then,
  other_parameters_then,
  Thread,
  thread_then,
  threads_then,
  AreWellThreads,
}
use Rattle.tc_tree.specs.Seen.{SeenBlock, SeenBranch, statements_of, otherwise_of}
use Rattle.tc_syntax.specs.helpers.Reading.{
  Expected,
  Just,
  End,
  Operand,
  Operators,
  Arguments,
  Others,
  Statements,
  AfterName,
  AfterAssign,
  Alternative,
  AfterElse,
  Locals,
  Parameters,
  OtherParameters,
  Globals,
  Threads,
  a_thread,
  fault,
  next_level,
  level_of,
}
use Rattle.tc_syntax.specs.helpers.Read.{
  IsRead,
  IsTight,
  IsStatement,
  IsPassed,
  IsAny,
  IsWellThread,
  branch_then,
  block_then,
  IsWellBranch,
  IsWellBlock,
}
use Rattle.tc_syntax.proofs.Signs.{operator_is, sign_read, no_operator}

-- ---- expressions

-- the expression read so far
pub record IsSoFar (least : ℕ) (ws : List Word) (e : Expression) (rest : List Word) : Type 0 where
  pub spelled : ws ≡ expression_then e rest
  pub grouped : IsGrouped e
  pub tight : least ≤ tightness e
  pub next : next_level rest ≤ tightness e
  pub moves : (s : List Expected) → fault (Some (Operand ∷ Operators ∷ s)) ws ≡ fault (Some (Operators ∷ s)) rest
  pub shorter : length rest < length ws

next_sign : (op : Operator) (rest : List Word) → next_level (ASign (binary_sign op) ∷ rest) ≡ level op
next_sign op rest = ap level_of (operator_is op)

-- one more operator with its right operand
pub one_more_operand : (least : ℕ) (ws : List Word) (e : Expression) (rest : List Word) (op : Operator) (start : List Word) (f : Expression)
    (after : List Word) → IsSoFar least ws e rest → rest ≡ ASign (binary_sign op) ∷ start → least ≤ level op → IsTight (level op + 1) start f after
    → IsSoFar least ws (Binary op e f) after
one_more_operand least ws e rest op start f after c is h r =
    let level_is : next_level rest ≡ level op = ap next_level is ∙ next_sign op start in
    record {
      spelled = c.spelled ∙ ap (λ (us : List Word). expression_then e us) (is ∙ ap (λ (us : List Word). ASign (binary_sign op) ∷ us) r.spelled);
      grouped = (omega (arith, level_is, c.next), omega (arith, r.tight), c.grouped, r.grouped);
      tight = h;
      next = omega (arith, r.longest);
      moves = λ s. c.moves s ∙ ap (λ (us : List Word). fault (Some (Operators ∷ s)) us) is ∙ sign_read op s start ∙ r.moves s;
      shorter = omega (arith, c.shorter, ap length is, r.shorter);
    }

-- after an operator, the fault is that of its right operand and the rest
pub operand_goes : (least : ℕ) (ws : List Word) (e : Expression) (rest : List Word) (op : Operator) (start : List Word) → IsSoFar least ws e rest
    → rest ≡ ASign (binary_sign op) ∷ start → (s : List Expected) → fault (Some (Operand ∷ Operators ∷ s)) ws ≡ fault (Some (Operand ∷ Operators ∷ s)) start
operand_goes least ws e rest op start c is s = c.moves s ∙ ap (λ (us : List Word). fault (Some (Operators ∷ s)) us) is ∙ sign_read op s start

pub whole : (ws : List Word) (e : Expression) (rest : List Word) → IsTight 1 ws e rest
    → IsRead expression_then IsGrouped [] (Operand ∷ Operators ∷ []) ws e rest
whole ws e rest t = record {
  spelled = t.spelled;
  good = t.grouped;
  moves = λ s. t.moves s ∙ no_operator rest t.longest s;
  shorter = omega (arith, t.shorter);
}

-- ---- arguments

-- the arguments read so far
pub record AreSome (ws : List Word) (es : List Expression) (rest : List Word) : Type 0 where
  pub spelled : ws ≡ list_then es rest
  pub grouped : AreGrouped es
  pub some : es ≢ []
  pub moves : (s : List Expected) → fault (Some (Arguments ∷ Just sign.CloseParen ∷ s)) ws ≡ fault (Some (Others ∷ Just sign.CloseParen ∷ s)) rest
  pub shorter : length rest ≤ length ws

-- unless the next word is `)`, an argument is expected
pub argument_goes : (ws : List Word) → ((us : List Word) → ws ≡ ASign sign.CloseParen ∷ us → ⊥) → (s : List Expected)
    → fault (Some (Arguments ∷ Just sign.CloseParen ∷ s)) ws ≡ fault (Some (Operand ∷ Operators ∷ Others ∷ Just sign.CloseParen ∷ s)) ws
argument_goes [] not s = refl
argument_goes (ASign sign.CloseParen ∷ us) not s = absurd (not us refl)
argument_goes (_ ∷ us) not s = refl

pub first_argument : (ws : List Word) (e : Expression) (rest : List Word) → ((us : List Word) → ws ≡ ASign sign.CloseParen ∷ us → ⊥)
    → IsRead expression_then IsGrouped [] (Operand ∷ Operators ∷ []) ws e rest → AreSome ws (e ∷ []) rest
first_argument ws e rest not r = record {
  spelled = r.spelled;
  grouped = (r.good, tt);
  some = λ h. cc;
  moves = λ s. argument_goes ws not s ∙ r.moves (Others ∷ Just sign.CloseParen ∷ s);
  shorter = r.shorter;
}

others_snoc : (es : List Expression) (e : Expression) (rest : List Word)
    → others_then (es ++ e ∷ []) rest ≡ others_then es (ASign sign.Comma ∷ expression_then e rest)
others_snoc [] e rest = refl
others_snoc (f ∷ es) e rest = ap (λ (us : List Word). ASign sign.Comma ∷ expression_then f us) (others_snoc es e rest)

list_snoc : (es : List Expression) (e : Expression) (rest : List Word) → es ≢ []
    → list_then es (ASign sign.Comma ∷ expression_then e rest) ≡ list_then (es ++ e ∷ []) rest
list_snoc [] e rest h = absurd (h refl)
list_snoc (f ∷ es) e rest h = ap (λ (us : List Word). expression_then f us) (sym (others_snoc es e rest))

grouped_snoc : (es : List Expression) (e : Expression) → AreGrouped es → IsGrouped e → AreGrouped (es ++ e ∷ [])
grouped_snoc [] e g h = (h, tt)
grouped_snoc (f ∷ es) e g h = (g.0, grouped_snoc es e g.1 h)

some_snoc : {A : Type 0} → (es : List A) (e : A) → (es ++ e ∷ []) ≢ []
some_snoc [] e h = cc
some_snoc (f ∷ es) e h = cc

pub one_more_argument : (ws : List Word) (es : List Expression) (rest start : List Word) (e : Expression) (after : List Word) → AreSome ws es rest
    → rest ≡ ASign sign.Comma ∷ start → IsRead expression_then IsGrouped [] (Operand ∷ Operators ∷ []) start e after → AreSome ws (es ++ e ∷ []) after
one_more_argument ws es rest start e after c is r = record {
  spelled = c.spelled ∙ ap (λ (us : List Word). list_then es us) (is ∙ ap (λ (us : List Word). ASign sign.Comma ∷ us) r.spelled) ∙ list_snoc es e after c.some;
  grouped = grouped_snoc es e c.grouped r.good;
  some = some_snoc es e;
  moves = λ s. c.moves s ∙ ap (λ (us : List Word). fault (Some (Others ∷ Just sign.CloseParen ∷ s)) us) is ∙ r.moves (Others ∷ Just sign.CloseParen ∷ s);
  shorter = omega (arith, c.shorter, ap length is, r.shorter);
}

-- without a comma, no argument is expected
pub no_comma : (ws : List Word) → ((us : List Word) → ws ≡ ASign sign.Comma ∷ us → ⊥) → (s : List Expected) → fault (Some (Others ∷ s)) ws ≡ fault (Some s) ws
no_comma [] not s = refl
no_comma (ASign sign.Comma ∷ us) not s = absurd (not us refl)
no_comma (_ ∷ us) not s = refl

-- ---- statements

statements_snoc : (ss : List Statement) (a : Statement) (rest : List Word)
    → statements_then (statements_of ss) (statement_then a rest) ≡ statements_then (statements_of (ss ++ a ∷ [])) rest
statements_snoc [] a rest = refl
statements_snoc (b ∷ ss) a rest = ap (λ (us : List Word). statement_then b us) (statements_snoc ss a rest)

well_snoc : (ss : List Statement) (a : Statement) → AreWell (statements_of ss) → IsWell a → AreWell (statements_of (ss ++ a ∷ []))
well_snoc [] a g h = (h, tt)
well_snoc (b ∷ ss) a g h = (g.0, well_snoc ss a g.1 h)

pub one_more_statement : (ws : List Word) (ss : List Statement) (rest : List Word) (a : Statement) (after : List Word)
    → IsPassed statements_then AreWell Statements Statements ws (statements_of ss) rest → IsStatement rest a after
    → IsPassed statements_then AreWell Statements Statements ws (statements_of (ss ++ a ∷ [])) after
one_more_statement ws ss rest a after c r = record {
  spelled = c.spelled ∙ ap (λ (us : List Word). statements_then (statements_of ss) us) r.spelled ∙ statements_snoc ss a after;
  good = well_snoc ss a c.good r.good;
  moves = λ s. c.moves s ∙ r.moves s;
  shorter = omega (arith, c.shorter, r.shorter);
}

-- an assigned value is an expression if it is nothing else
pub value_goes : (ws : List Word) → ((us : List Word) → ws ≡ AKeyword keyword.Create ∷ us → ⊥)
    → ((k : UpdateKind) (t : Target) (us : List Word) → ws ≡ AnUpdate k t ∷ us → ⊥) → (s : List Expected)
    → fault (Some (AfterAssign ∷ s)) ws ≡ fault (Some (Operand ∷ Operators ∷ Just sign.Semicolon ∷ s)) ws
value_goes [] a b s = refl
value_goes (AKeyword keyword.Create ∷ us) a b s = absurd (a us refl)
value_goes (AnUpdate k t ∷ us) a b s = absurd (b k t us refl)
value_goes (ASign sign.OpenParen ∷ us) a b s = refl
value_goes (_ ∷ us) a b s = refl

pub value_read : (x : Name) (ws : List Word) (e : Expression) (end rest : List Word) → ((us : List Word) → ws ≡ AKeyword keyword.Create ∷ us → ⊥)
    → ((k : UpdateKind) (t : Target) (us : List Word) → ws ≡ AnUpdate k t ∷ us → ⊥)
    → IsRead expression_then IsGrouped [] (Operand ∷ Operators ∷ []) ws e end → end ≡ ASign sign.Semicolon ∷ rest
    → IsRead statement_then IsWell (AName x ∷ ASign sign.Assign ∷ []) (AfterAssign ∷ []) ws (Assign x e) rest
value_read x ws e end rest a b r is = record {
  spelled = ap (λ (us : List Word). AName x ∷ ASign sign.Assign ∷ us) (r.spelled ∙ ap (λ (us : List Word). expression_then e us) is);
  good = r.good;
  moves = λ s. value_goes ws a b s ∙ r.moves (Just sign.Semicolon ∷ s) ∙ ap (λ (us : List Word). fault (Some (Just sign.Semicolon ∷ s)) us) is;
  shorter = omega (arith, r.shorter, ap length is);
}

-- after a name without `[` or `=`, the fault is that of a missing `=`
pub name_goes : (ws : List Word) → ((us : List Word) → ws ≡ ASign sign.OpenBracket ∷ us → ⊥) → ((us : List Word) → ws ≡ ASign sign.Assign ∷ us → ⊥)
    → (s : List Expected) → fault (Some (AfterName ∷ s)) ws ≡ fault (Some (Just sign.Assign ∷ s)) ws
name_goes [] a b s = refl
name_goes (ASign sign.OpenBracket ∷ us) a b s = absurd (a us refl)
name_goes (ASign sign.Assign ∷ us) a b s = absurd (b us refl)
name_goes (_ ∷ us) a b s = refl

-- ---- branches

-- no `else` follows
pub no_else : (ws : List Word) → ((us : List Word) → ws ≡ AKeyword keyword.Else ∷ us → ⊥) → (s : List Expected)
    → fault (Some (Alternative ∷ s)) ws ≡ fault (Some s) ws
no_else [] not s = refl
no_else (AKeyword keyword.Else ∷ us) not s = absurd (not us refl)
no_else (_ ∷ us) not s = refl

-- if no `if` follows an `else`, a block is expected
pub block_goes : (ws : List Word) → ((p : Place) (us : List Word) → ws ≡ AnIf p ∷ us → ⊥) → (s : List Expected)
    → fault (Some (AfterElse ∷ s)) ws ≡ fault (Some (Just sign.OpenBrace ∷ Statements ∷ End ∷ s)) ws
block_goes [] not s = refl
block_goes (AnIf p ∷ us) not s = absurd (not p us refl)
block_goes (ASign sign.OpenBrace ∷ us) not s = refl
block_goes (_ ∷ us) not s = refl

abbrev pub chain_then : List SeenBranch → List Word → List Word
chain_then [] rest = rest
chain_then (b ∷ bs) rest = AKeyword keyword.Else ∷ AnIf b.place ∷ branch_then b (chain_then bs rest)

abbrev pub AreWellBranches : List SeenBranch → Type 0
AreWellBranches [] = Unit {0}
AreWellBranches (b ∷ bs) = IsGrouped b.condition × AreWell b.body.statements × AreWellBranches bs

chain_snoc : (bs : List SeenBranch) (b : SeenBranch) (rest : List Word) → chain_then bs (chain_then (b ∷ []) rest) ≡ chain_then (bs ++ b ∷ []) rest
chain_snoc [] b rest = refl
chain_snoc (c ∷ bs) b rest = ap (λ (us : List Word). AKeyword keyword.Else ∷ AnIf c.place ∷ branch_then c us) (chain_snoc bs b rest)

branches_snoc : (bs : List SeenBranch) (b : SeenBranch) → AreWellBranches bs → IsGrouped b.condition → AreWell b.body.statements
    → AreWellBranches (bs ++ b ∷ [])
branches_snoc [] b g h k = (h, k, tt)
branches_snoc (c ∷ bs) b g h k = (g.0, g.1, branches_snoc bs b g.2 h k)

-- after an `else`, the fault is that of the rest
pub else_goes : (ws : List Word) (bs : List SeenBranch) (rest after : List Word)
    → IsPassed chain_then AreWellBranches Alternative Alternative ws bs rest → rest ≡ AKeyword keyword.Else ∷ after → (s : List Expected)
    → fault (Some (Alternative ∷ s)) ws ≡ fault (Some (AfterElse ∷ s)) after
else_goes ws bs rest after c is s = c.moves s ∙ ap (λ (us : List Word). fault (Some (Alternative ∷ s)) us) is

pub one_more_branch : (ws : List Word) (bs : List SeenBranch) (rest start : List Word) (p : Place) (b : SeenBranch) (after : List Word)
    → IsPassed chain_then AreWellBranches Alternative Alternative ws bs rest → rest ≡ AKeyword keyword.Else ∷ AnIf p ∷ start
    → IsRead branch_then (IsWellBranch p) [] (Just sign.OpenParen ∷ Operand ∷ Operators ∷ Just sign.CloseParen ∷ Just sign.OpenBrace ∷ Statements ∷
    End ∷ []) start b after → IsPassed chain_then AreWellBranches Alternative Alternative ws (bs ++ b ∷ []) after
one_more_branch ws bs rest start p b after c is r = record {
  spelled = c.spelled ∙ ap (λ (us : List Word). chain_then bs us) (is ∙ ap (λ (q : Place). AKeyword keyword.Else ∷ AnIf q ∷ start) (sym r.good.0)
      ∙ ap (λ (us : List Word). AKeyword keyword.Else ∷ AnIf b.place ∷ us) r.spelled) ∙ chain_snoc bs b after;
  good = branches_snoc bs b c.good r.good.1 r.good.2;
  moves = λ s. c.moves s ∙ ap (λ (us : List Word). fault (Some (Alternative ∷ s)) us) is ∙ r.moves (Alternative ∷ s);
  shorter = omega (arith, c.shorter, ap length is, r.shorter);
}

chain_ends : (bs : List SeenBranch) (last : Option SeenBlock) (rest : List Word)
    → chain_then bs (otherwise_then (otherwise_of [] last) rest) ≡ otherwise_then (otherwise_of bs last) rest
chain_ends [] last rest = refl
chain_ends (c ∷ bs) last rest = ap (λ (us : List Word). AKeyword keyword.Else ∷ AnIf c.place ∷ branch_then c us) (chain_ends bs last rest)

chain_well : (bs : List SeenBranch) (last : Option SeenBlock) → AreWellBranches bs → IsWellOtherwise (otherwise_of [] last)
    → IsWellOtherwise (otherwise_of bs last)
chain_well [] last g h = h
chain_well (c ∷ bs) last g h = (g.0, g.1, chain_well bs last g.2 h)

-- the chain ends without an `else`
pub no_last : (ws : List Word) (bs : List SeenBranch) (rest : List Word) → IsPassed chain_then AreWellBranches Alternative Alternative ws bs rest
    → ((us : List Word) → rest ≡ AKeyword keyword.Else ∷ us → ⊥) → IsRead otherwise_then IsWellOtherwise [] (Alternative ∷ []) ws (otherwise_of bs None) rest
no_last ws bs rest c not = record {
  spelled = c.spelled ∙ chain_ends bs None rest;
  good = chain_well bs None c.good tt;
  moves = λ s. c.moves s ∙ no_else rest not s;
  shorter = c.shorter;
}

-- a chain that ends with the block of an `else`
pub one_last : (ws : List Word) (bs : List SeenBranch) (rest after : List Word) (b : SeenBlock) (end : List Word)
    → IsPassed chain_then AreWellBranches Alternative Alternative ws bs rest → rest ≡ AKeyword keyword.Else ∷ after
    → ((p : Place) (us : List Word) → after ≡ AnIf p ∷ us → ⊥)
    → IsRead block_then IsWellBlock [] (Just sign.OpenBrace ∷ Statements ∷ End ∷ []) after b end
    → IsRead otherwise_then IsWellOtherwise [] (Alternative ∷ []) ws (otherwise_of bs (Some b)) end
one_last ws bs rest after b end c is not r = record {
  spelled = c.spelled ∙ ap (λ (us : List Word). chain_then bs us) (is ∙ ap (λ (us : List Word). AKeyword keyword.Else ∷ us) r.spelled)
      ∙ chain_ends bs (Some b) end;
  good = chain_well bs (Some b) c.good r.good;
  moves = λ s. else_goes ws bs rest after c is s ∙ block_goes after not s ∙ r.moves s;
  shorter = omega (arith, c.shorter, ap length is, r.shorter);
}

-- ---- programs

globals_snoc : (gs : List Global) (g : Global) (rest : List Word) → globals_then gs (global_then g rest) ≡ globals_then (gs ++ g ∷ []) rest
globals_snoc [] g rest = refl
globals_snoc (h ∷ gs) g rest = ap (λ (us : List Word). global_then h us) (globals_snoc gs g rest)

pub one_more_global : (ws : List Word) (gs : List Global) (rest : List Word) (g : Global) (after : List Word)
    → IsPassed globals_then IsAny Globals Globals ws gs rest → IsPassed global_then IsAny Globals Globals rest g after
    → IsPassed globals_then IsAny Globals Globals ws (gs ++ g ∷ []) after
one_more_global ws gs rest g after c r = record {
  spelled = c.spelled ∙ ap (λ (us : List Word). globals_then gs us) r.spelled ∙ globals_snoc gs g after;
  good = tt;
  moves = λ s. c.moves s ∙ r.moves s;
  shorter = omega (arith, c.shorter, r.shorter);
}

locals_snoc : (ls : List Local) (l : Local) (rest : List Word) → locals_then ls (local_then l rest) ≡ locals_then (ls ++ l ∷ []) rest
locals_snoc [] l rest = refl
locals_snoc (h ∷ ls) l rest = ap (λ (us : List Word). local_then h us) (locals_snoc ls l rest)

pub one_more_local : (ws : List Word) (ls : List Local) (rest : List Word) (l : Local) (after : List Word)
    → IsPassed locals_then IsAny Locals Locals ws ls rest → IsPassed local_then IsAny Locals Locals rest l after
    → IsPassed locals_then IsAny Locals Locals ws (ls ++ l ∷ []) after
one_more_local ws ls rest l after c r = record {
  spelled = c.spelled ∙ ap (λ (us : List Word). locals_then ls us) r.spelled ∙ locals_snoc ls l after;
  good = tt;
  moves = λ s. c.moves s ∙ r.moves s;
  shorter = omega (arith, c.shorter, r.shorter);
}

threads_snoc : (ts : List Thread) (t : Thread) (rest : List Word) → threads_then ts (thread_then t rest) ≡ threads_then (ts ++ t ∷ []) rest
threads_snoc [] t rest = refl
threads_snoc (u ∷ ts) t rest = ap (λ (us : List Word). thread_then u us) (threads_snoc ts t rest)

well_threads_snoc : (ts : List Thread) (t : Thread) → AreWellThreads ts → AreWell t.body.statements → AreWellThreads (ts ++ t ∷ [])
well_threads_snoc [] t g h = (h, tt)
well_threads_snoc (u ∷ ts) t g h = (g.0, well_threads_snoc ts t g.1 h)

-- the parameters read so far
pub record AreParameters (ws : List Word) (xs : List Name) (rest : List Word) : Type 0 where
  pub spelled : ws ≡ parameters_then xs rest
  pub some : xs ≢ []
  pub moves : (s : List Expected) → fault (Some (Parameters ∷ s)) ws ≡ fault (Some (OtherParameters ∷ s)) rest
  pub shorter : length rest ≤ length ws

others_end : (xs : List Name) (x : Name) (rest : List Word)
    → other_parameters_then (xs ++ x ∷ []) rest ≡ other_parameters_then xs (ASign sign.Comma ∷ AKeyword keyword.Int ∷ AName x ∷ rest)
others_end [] x rest = refl
others_end (y ∷ xs) x rest = ap (λ (us : List Word). ASign sign.Comma ∷ AKeyword keyword.Int ∷ AName y ∷ us) (others_end xs x rest)

pub parameters_snoc : (xs : List Name) (x : Name) (rest : List Word) → xs ≢ []
    → parameters_then xs (ASign sign.Comma ∷ AKeyword keyword.Int ∷ AName x ∷ rest) ≡ parameters_then (xs ++ x ∷ []) rest
parameters_snoc [] x rest h = absurd (h refl)
parameters_snoc (y ∷ xs) x rest h = ap (λ (us : List Word). AKeyword keyword.Int ∷ AName y ∷ us) (sym (others_end xs x rest))

-- ---- the ends of lists in programs

-- neither a thread nor main follows
pub no_main : (ws : List Word) → ((us : List Word) → ws ≡ AKeyword keyword.Thread ∷ us → ⊥) → ((us : List Word) → ws ≡ AKeyword keyword.Main ∷ us → ⊥)
    → (s : List Expected) → fault (Some (Threads ∷ s)) ws ≡ Some (length ws)
no_main [] a b s = refl
no_main (AKeyword keyword.Thread ∷ us) a b s = absurd (a us refl)
no_main (AKeyword keyword.Main ∷ us) a b s = absurd (b us refl)
no_main (_ ∷ us) a b s = refl

pub one_more_thread : (ws : List Word) (ts : List Thread) (rest start : List Word) (t : Thread) (after : List Word)
    → IsPassed threads_then AreWellThreads Threads Threads ws ts rest → rest ≡ AKeyword keyword.Thread ∷ start
    → IsRead thread_then IsWellThread (AKeyword keyword.Thread ∷ []) a_thread start t after
    → IsPassed threads_then AreWellThreads Threads Threads ws (ts ++ t ∷ []) after
one_more_thread ws ts rest start t after c is r = record {
  spelled = c.spelled ∙ ap (λ (us : List Word). threads_then ts us) (is ∙ r.spelled) ∙ threads_snoc ts t after;
  good = well_threads_snoc ts t c.good r.good;
  moves = λ s. c.moves s ∙ ap (λ (us : List Word). fault (Some (Threads ∷ s)) us) is ∙ r.moves (Threads ∷ s);
  shorter = omega (arith, c.shorter, ap length is, r.shorter);
}

pub one_more_parameter : (ws : List Word) (xs : List Name) (rest start end : List Word) (x : Name) (after : List Word) → AreParameters ws xs rest
    → rest ≡ ASign sign.Comma ∷ start → start ≡ AKeyword keyword.Int ∷ end → end ≡ AName x ∷ after → AreParameters ws (xs ++ x ∷ []) after
one_more_parameter ws xs rest start end x after c is is' is'' =
    let all : rest ≡ ASign sign.Comma ∷ AKeyword keyword.Int ∷ AName x ∷ after = is
    ∙ ap (λ (us : List Word). ASign sign.Comma ∷ us) (is' ∙ ap (λ (us : List Word). AKeyword keyword.Int ∷ us) is'') in
    record {
      spelled = c.spelled ∙ ap (λ (us : List Word). parameters_then xs us) all ∙ parameters_snoc xs x after c.some;
      some = some_snoc xs x;
      moves = λ s. c.moves s ∙ ap (λ (us : List Word). fault (Some (OtherParameters ∷ s)) us) all;
      shorter = omega (arith, c.shorter, ap length all);
    }

-- words after main
pub too_many : (rest : List Word) → length rest ≢ 0 → fault (Some []) rest ≡ Some (length rest)
too_many [] h = absurd (h refl)
too_many (w ∷ ws) h = refl
