-- What a thread needs to do an instruction.
use Rattle.std.specs.Prelude.{◌≡◌, ◌+◌, ◌<◌, ◌≤◌, ◌^◌, length, Bool, true, false, IsTrue, IfSome}
use Rattle.std.specs.FinMap as fin
use Rattle.tc_base.specs.Names.{Name, ByName}
use Rattle.tc_base.specs.States.{Local, Thread}
use Rattle.tc_code.specs.Expr.{Expr}
use Rattle.tc_code.specs.declared.cell.Cell.{Cell}
use Rattle.tc_code.specs.declared.instr.Instr.{Instr}
use Rattle.tc_code.specs.declared.instr.Instr.TheVariants.{Branch}
use Rattle.tc_code.specs.tc_limits.declared.limits.TheConstants.{CELLS}
use Rattle.tc_code.specs.Code.{Code}
use Rattle.tc_code.specs.Lawful.{has_cell, names_what_is}
use Rattle.tc_code.specs.declared.code.Func.{Func}
use Rattle.tc_base.specs.declared.request.Request.{Request}
use Rattle.tc_base.specs.declared.request.Request.TheVariants.{Start}
use Rattle.tc_code.specs.Step.{ints_of, arguments_of}
use Rattle.run_laws.specs.Counters.{IsBelowLast}
use Rattle.run_laws.specs.Whole.{CellIsWithin, IndexIsWithin}

-- the function, resized to the thread's slots and handles
abbrev pub sized : Func → Local → Func
sized f t = record f { ints = length t.slots; handles = length t.handles }

-- everything that the instruction names exists, and its index is inside its array
pub record CanAsk (code : Code) (t : Local) (i : Instr) : Type 0 where
  pub function : Func
  pub names : IsTrue (names_what_is code (sized function t) i)
  pub held : length t.held ≡ code.mutexes
  pub cells : length code.memory ≤ CELLS
  pub index : IndexIsWithin t i

-- the cell exists, and an element is inside its array
pub record CanReach (t : Local) (c : Cell Expr) : Type 0 where
  pub code : Code
  pub function : Func
  pub there : IsTrue (has_cell code (sized function t) c)
  pub cells : length code.memory ≤ CELLS
  pub index : CellIsWithin t c

-- the thread's next place, next step count and next child number fit
pub record HasRoom (t : Local) : Type 0 where
  pub place : t.instruction + 1 < 2 ^ 64
  pub counters : IsBelowLast t

pub record CanDo (code : Code) (t : Local) (i : Instr) : Type 0 where
  pub asks : CanAsk code t i
  pub room : HasRoom t

abbrev pub is_branch : Instr → Bool
is_branch (Branch e to) = true
is_branch _ = false

-- a function to be started exists and has room for the arguments
abbrev pub Starts : Code → Local → Instr → Request → Type 0
Starts code t i (Start f) =
    (f < length code.functions) × (length (arguments_of t i) ≤ ints_of code f)
Starts code t i _ = Unit {0}

module _ {B : Type 0} where
  -- the named thread, if it exists, can do the instruction
  abbrev pub CanAdvance : ByName (Thread B) → Name → Instr → Type 0
  CanAdvance threads n i = IfSome (fin.get threads n) (λ t. (code : Code) × CanDo code t.local i)
