-- What a state needs for a thread to do an instruction. No promise uses this file.
use Rattle.std.specs.Prelude.{◌≡◌, ◌+◌, ◌<◌, ◌^◌, length, IsTrue, Some, None}
use Rattle.std.specs.FinMap as fin
use Rattle.tc_base.specs.Names.{Name, child}
use Rattle.tc_base.specs.States.{Local, Thread, State}
use Rattle.tc_base.specs.declared.request.Request.{Request}
use Rattle.tc_base.specs.declared.request.Request.TheVariants.{Silent}
use Rattle.tc_code.specs.declared.instr.Instr.{Instr}
use Rattle.tc_code.specs.Code.{Code}
use Rattle.tc_code.specs.Lawful.{IsLawful}
use Rattle.tc_code.specs.Step.{instr_of}
use Rattle.tc_threads.specs.run_laws.helpers.Asks.{AsksWithin}
use Rattle.tc_threads.specs.CanDo.{CanDo, Starts, is_branch}

-- the code is lawful, i is the thread's next instruction, and the place after it is below 2^64
pub record DoesNext (code : Code) (t : Local) (i : Instr) : Type 0 where
  pub lawful : IsLawful code
  pub at : instr_of code t ≡ Some i
  pub room : t.instruction + 1 < 2 ^ 64

module _ {B : Type 0} where
  -- what the request asks for exists
  abbrev pub AsksIn : State B → Request → Type 0
  AsksIn s r = AsksWithin (length s.memory) (length s.owners) (length s.waiters) r

  -- n can do the instruction, whose request names what exists and is silent for a branch, and n's
  -- next child has a new name
  pub record CanPerform (code : Code) (s : State B) (n : Name) (i : Instr) (r : Request)
      (t : Thread B) : Type 0 where
    pub thread : CanDo code t.local i
    pub asked : AsksIn s r
    pub starts : Starts code t.local i r
    pub branch : IsTrue (is_branch i) → r ≡ Silent
    pub is_new : fin.get s.threads (child n (t.local.children + 1)) ≡ None
