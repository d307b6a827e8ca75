-- Well-formed threads and states of lawful code.
use Rattle.std.specs.Prelude.{◌≡◌, length, Some, slice_get, IsTrue, IfSome}
use Rattle.std.specs.FinMap as fin
use Rattle.tc_code.specs.tc_base.Names.{Name, ByName}
use Rattle.tc_code.specs.tc_base.States.{Local, Thread, State}
use Rattle.tc_code.specs.declared.instr.Instr.{Instr}
use Rattle.tc_code.specs.declared.cell.Cell.{Cell}
use Rattle.tc_code.specs.declared.cell.Cell.TheVariants.{Fixed, Element}
use Rattle.tc_code.specs.Code.{Code}
use Rattle.tc_code.specs.declared.code.Func.{Func}
use Rattle.tc_code.specs.Expr.{Expr}
use Rattle.tc_code.specs.Lawful.{accessed}
use Rattle.tc_code.specs.Step.{is_within, value_in}

-- P holds of every thread
abbrev pub AllThreads : {B : Type 0} → (Local → Type 0) → ByName (Thread B) → Type 0
AllThreads {B} P threads = (n : Name) (t : Thread B) → fin.get threads n ≡ Some t → P t.local

-- a thread has the slots and handles of its function, and a held flag for each mutex
pub record IsWholeThread (code : Code) (t : Local) : Type 0 where
  pub function : Func
  pub there : slice_get code.functions t.function ≡ Some function
  pub slots : length t.slots ≡ function.ints
  pub handles : length t.handles ≡ function.handles
  pub held : length t.held ≡ code.mutexes

-- the state has every cell, mutex and condition of the code, and every thread is whole
pub record IsWhole {B : Type 0} (code : Code) (s : State B) : Type 0 where
  pub cells : length s.memory ≡ length code.memory
  pub owners : length s.owners ≡ code.mutexes
  pub waiters : length s.waiters ≡ code.conditions
  pub threads : AllThreads (IsWholeThread code) s.threads

-- the index of an element is inside its array
abbrev pub CellIsWithin : Local → Cell Expr → Type 0
CellIsWithin t (Fixed c) = Unit {0}
CellIsWithin t (Element first len i) = IsTrue (is_within len (value_in t i))

-- the index of an access is inside its array
abbrev pub IndexIsWithin : Local → Instr → Type 0
IndexIsWithin t i = IfSome (accessed i) (CellIsWithin t)
