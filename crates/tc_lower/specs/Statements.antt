-- Statements as instructions, each with its line.
use Rattle.std.specs.Prelude.{ℕ, ◌+◌, pos, nat_eq, Bool, true, false, List, [], ◌∷◌, ◌++◌, length, replicate, Option, Some, None, if◌then◌else◌}
use Rattle.int_ops.specs.declared.update.Update.{Update}
use Rattle.int_ops.specs.declared.update.Update.TheVariants as update
use Rattle.tc_code.specs.Expr.{Expr}
use Rattle.tc_code.specs.Expr as code
use Rattle.tc_code.specs.declared.cell.Cell.{Cell as CodeCell}
use Rattle.tc_code.specs.declared.cell.Cell.TheVariants as cell
use Rattle.tc_code.specs.declared.instr.Instr.TheVariants as instr
use Rattle.tc_code.specs.declared.instr.Instr.{Instr}
use Rattle.tc_tree.specs.declared.expression.Name.{Name}
use Rattle.tc_tree.specs.declared.statement.Action.{Action}
use Rattle.tc_tree.specs.declared.statement.Action.TheVariants.{Join, Lock, Unlock, Signal, Broadcast}
use Rattle.tc_tree.specs.declared.statement.Barrier.{Barrier}
use Rattle.tc_tree.specs.declared.statement.Barrier.TheVariants.{Fence, Stores}
use Rattle.tc_tree.specs.Grammar.{
  Expression,
  Statement,
  Assign,
  Store,
  Create,
  Modify,
  Act,
  Wait,
  Order,
  Assert,
  While,
  If,
  Statements,
  Nil,
  Cons,
  Otherwise,
  Nothing,
  Else,
  ElseIf,
}
use Rattle.tc_lower.specs.declared.things.Thing.{Thing}
use Rattle.tc_lower.specs.declared.things.Thing.TheVariants.{Cell, Array, Mutex, Condition, Function, Slot, Handle}
use Rattle.tc_lower.specs.Values.{Evaluated, evaluated, arguments}

-- instructions, and the next free slot
pub record Written : Type 0 where
  pub instrs : List Instr
  pub free : ℕ

-- the instructions of statements, the line of each, and the next free slot
pub record Lowered : Type 0 where
  pub instrs : List Instr
  pub lines : List ℕ
  pub free : ℕ

-- instructions of one line
abbrev pub on_line : ℕ → Written → Lowered
on_line line w =
    record { instrs = w.instrs; lines = replicate (length w.instrs) line; free = w.free }

-- ---- what a statement does with its values; the rules for names exclude other things

abbrev pub assignment : Option Thing → Expr → List Instr
assignment (Some (Slot k)) e = instr.Set k e ∷ []
assignment (Some (Cell c)) e = instr.Store (cell.Fixed c) e ∷ []
assignment _ e = []

abbrev pub test_of_index : Option Thing → Expr → List Instr
test_of_index (Some (Array first len)) i = instr.Inside len i ∷ []
test_of_index _ i = []

abbrev pub store : Option Thing → Expr → Expr → List Instr
store (Some (Array first len)) i e = instr.Store (cell.Element first len i) e ∷ []
store _ i e = []

-- a create, if the thread has as many parameters as there are arguments
abbrev pub creation : Option Thing → Option Thing → List Expr → List Instr
creation (Some (Handle h)) (Some (Function f parameters)) es =
    if nat_eq parameters (length es) then instr.Create h f es ∷ [] else []
creation _ _ es = []

-- the cell that an update changes: a global's, or an element of an array
abbrev pub cell_of : Option Thing → Option Expr → Option (CodeCell Expr)
cell_of (Some (Cell c)) None = Some (cell.Fixed c)
cell_of (Some (Array first len)) (Some i) = Some (cell.Element first len i)
cell_of _ _ = None

-- an update: a new slot takes the cell's old value, and the int of the body takes that
abbrev pub modification : Option Thing → Option (CodeCell Expr) → ℕ → Update Expr → List Instr
modification (Some (Slot k)) (Some c) free u =
    instr.Modify free c u ∷ instr.Set k (code.Slot free) ∷ []
modification _ _ free u = instr.Set free (code.Number (pos 0)) ∷ []

abbrev pub action : Action → Option Thing → List Instr
action Join (Some (Handle h)) = instr.Ready h ∷ instr.Join h ∷ []
action Lock (Some (Mutex m)) = instr.Lock m ∷ []
action Unlock (Some (Mutex m)) = instr.Holds m ∷ instr.Unlock m ∷ []
action Signal (Some (Condition c)) = instr.Signal c ∷ []
action Broadcast (Some (Condition c)) = instr.Broadcast c ∷ []
action _ _ = []

abbrev pub wait : Option Thing → Option Thing → List Instr
wait (Some (Condition c)) (Some (Mutex m)) = instr.Holds m ∷ instr.Sleep c m ∷ instr.Wake c m ∷ []
wait _ _ = []

abbrev pub barrier : Barrier → Instr
barrier Fence = instr.Fence
barrier Stores = instr.Stbar

-- ---- statements without inner statements, from a place and a free slot on

abbrev pub assigned : (Name → Option Thing) → ℕ → ℕ → Name → Expression → Written
assigned scope at free x e =
    let v = evaluated scope at free e in
    record { instrs = v.instrs ++ assignment (scope x) v.value; free = v.free }

abbrev pub stored : (Name → Option Thing) → ℕ → ℕ → Name → Expression → Expression → Written
stored scope at free a i e =
    let index = evaluated scope at free i in
    let test = test_of_index (scope a) index.value in
    let v = evaluated scope (at + length index.instrs + length test) index.free e in
    record {
      instrs = index.instrs ++ test ++ v.instrs
          ++ store (scope a) index.value v.value;
      free = v.free;
    }

abbrev pub created : (Name → Option Thing) → ℕ → ℕ → Name → Name → List Expression → Written
created scope at free h f es =
    let given = arguments scope at free es in
    record { instrs = given.instrs ++ creation (scope h) (scope f) given.values; free = given.free }

-- the index of an update, if it has one, with the test that it is inside its array
pub record Indexed : Type 0 where
  pub instrs : List Instr
  pub index : Option Expr
  pub free : ℕ

abbrev pub indexed : (Name → Option Thing) → ℕ → ℕ → Name → Option Expression → Indexed
indexed scope at free a None = record { instrs = []; index = None; free = free }
indexed scope at free a (Some i) =
    let v = evaluated scope at free i in
    record {
      instrs = v.instrs ++ test_of_index (scope a) v.value;
      index = Some v.value;
      free = v.free;
    }

-- an update over the values of its operands
pub record Updating : Type 0 where
  pub instrs : List Instr
  pub update : Update Expr
  pub free : ℕ

-- an update of one operand
abbrev pub over_one : (Expr → Update Expr) → Evaluated → Updating
over_one make v = record { instrs = v.instrs; update = make v.value; free = v.free }

abbrev pub updating : (Name → Option Thing) → ℕ → ℕ → Update Expression → Updating
updating scope at free (update.Swap e) = over_one update.Swap (evaluated scope at free e)
updating scope at free (update.Cas e new) =
    let old = evaluated scope at free e in
    let v = evaluated scope (at + length old.instrs) old.free new in
    record { instrs = old.instrs ++ v.instrs; update = update.Cas old.value v.value; free = v.free }
updating scope at free (update.Add e) = over_one update.Add (evaluated scope at free e)

abbrev pub modified : (Name → Option Thing) → ℕ → ℕ → Name → Name → Option Expression
    → Update Expression → Written
modified scope at free r x i u =
    let index = indexed scope at free x i in
    let given = updating scope (at + length index.instrs) index.free u in
    record {
      instrs = index.instrs ++ given.instrs
          ++ modification (scope r) (cell_of (scope x) index.index) given.free given.update;
      free = given.free + 1;
    }

abbrev pub asserted : (Name → Option Thing) → ℕ → ℕ → Expression → Written
asserted scope at free e =
    let v = evaluated scope at free e in
    record { instrs = v.instrs ++ instr.Assert v.value ∷ []; free = v.free }

-- ---- statements with inner statements

-- a loop that begins at a place: its test, its body, and the jump back
abbrev pub looped : ℕ → ℕ → Evaluated → Lowered → Lowered
looped line at test body =
    let end = at + length test.instrs + 1 + length body.instrs + 1 in
    record {
      instrs = test.instrs ++ instr.Branch test.value end ∷ [] ++ body.instrs ++ instr.Goto at ∷ [];
      lines = replicate (length test.instrs + 1) line ++ body.lines ++ line ∷ [];
      free = body.free;
    }

-- whether anything follows the body of an `if`
abbrev pub goes_on : Otherwise → Bool
goes_on Nothing = false
goes_on (Else b q) = true
goes_on (ElseIf p c b q o) = true

-- the jump past what follows, if anything does
abbrev pub passing : Bool → ℕ → List Instr
passing false end = []
passing true end = instr.Goto end ∷ []

-- the place after a test that begins at place `at`, its body and the jump
abbrev pub after_body : ℕ → Evaluated → Lowered → Bool → ℕ
after_body at test body more =
    at + length test.instrs + 1 + length body.instrs + length (passing more 0)

-- a test that begins at a place, its body, and what follows it
abbrev pub branched : ℕ → ℕ → Evaluated → Lowered → Bool → Lowered → Lowered
branched line at test body more others =
    let next = after_body at test body more in
    let end = next + length others.instrs in
    record {
      instrs = test.instrs ++ instr.Branch test.value next ∷ [] ++ body.instrs ++ passing more end
          ++ others.instrs;
      lines = replicate (length test.instrs + 1) line ++ body.lines
          ++ replicate (length (passing more 0)) line ++ others.lines;
      free = others.free;
    }

-- a statement lowered from a place and a next free slot
abbrev mutual
  pub lowered : (Name → Option Thing) → ℕ → ℕ → Statement → Lowered
  lowered scope at free (Assign x e) = on_line x.place.line (assigned scope at free x e)
  lowered scope at free (Store a i e) = on_line a.place.line (stored scope at free a i e)
  lowered scope at free (Create h f es) = on_line h.place.line (created scope at free h f es)
  lowered scope at free (Modify r x i u) = on_line r.place.line (modified scope at free r x i u)
  lowered scope at free (Act p a x) =
      on_line p.line (record { instrs = action a (scope x); free = free })
  lowered scope at free (Wait p c m) =
      on_line p.line (record { instrs = wait (scope c) (scope m); free = free })
  lowered scope at free (Order p b) =
      on_line p.line (record { instrs = barrier b ∷ []; free = free })
  lowered scope at free (Assert p e) = on_line p.line (asserted scope at free e)
  lowered scope at free (While p c b q) =
      let test = evaluated scope at free c in
      looped p.line at test (all_lowered scope (at + length test.instrs + 1) test.free b)
  lowered scope at free (If p c b q o) =
      let test = evaluated scope at free c in
      let body = all_lowered scope (at + length test.instrs + 1) test.free b in
      let next = after_body at test body (goes_on o) in
      branched p.line at test body (goes_on o) (lowered_otherwise scope next body.free o)

  pub all_lowered : (Name → Option Thing) → ℕ → ℕ → Statements → Lowered
  all_lowered scope at free Nil = record { instrs = []; lines = []; free = free }
  all_lowered scope at free (Cons s ss) =
      let first = lowered scope at free s in
      let others = all_lowered scope (at + length first.instrs) first.free ss in
      record {
        instrs = first.instrs ++ others.instrs;
        lines = first.lines
            ++ others.lines;
        free = others.free;
      }

  pub lowered_otherwise : (Name → Option Thing) → ℕ → ℕ → Otherwise → Lowered
  lowered_otherwise scope at free Nothing = record { instrs = []; lines = []; free = free }
  lowered_otherwise scope at free (Else b q) = all_lowered scope at free b
  lowered_otherwise scope at free (ElseIf p c b q o) =
      let test = evaluated scope at free c in
      let body = all_lowered scope (at + length test.instrs + 1) test.free b in
      let next = after_body at test body (goes_on o) in
      branched p.line at test body (goes_on o) (lowered_otherwise scope next body.free o)
