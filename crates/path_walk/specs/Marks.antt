-- A thread's mutexes and thread variables, as its own steps leave them.
use Rattle.std.specs.Prelude.{ℕ, ◌+◌, List, [], ◌∷◌, length, Bool, true, false, ◌&&◌, ◌==◌, replicate, slice_set, slice_index_or}
use Rattle.tc_base.specs.declared.handle.Handle.{Handle}
use Rattle.tc_base.specs.declared.handle.Handle.TheVariants.{Unset, Child, Joined}
use Rattle.tc_code.specs.Code.{Code}
use Rattle.tc_code.specs.declared.instr.Instr.{Instr}
use Rattle.tc_code.specs.declared.instr.Instr.TheVariants.{Lock, Unlock, Sleep, Wake, Create, Join, Stbar}
use Rattle.tc_code.specs.Step.{handles_of, child_number}
use Rattle.path_walk.specs.Steps.{Step}

pub record Marks : Type 0 where
  -- for each mutex, whether the thread holds it
  pub held : List Bool
  -- its thread variables
  pub handles : List Handle
  -- the number of children created, and the number of bars between stores
  pub children : ℕ
  pub bars : ℕ

-- the marks at the start of a function: nothing is held or set
abbrev pub marks_at_start : Code → ℕ → Marks
marks_at_start code f =
    record {
      held = replicate code.mutexes false;
      handles = replicate
          (handles_of code f) Unset;
      children = 0;
      bars = 0;
    }

abbrev pub has_mutex : Marks → ℕ → Bool
has_mutex t m = slice_index_or t.held m false

abbrev pub handle_in : Marks → ℕ → Handle
handle_in t h = slice_index_or t.handles h Unset

-- the marks after an instruction on a mutex, a thread variable or the bars
abbrev pub marks_after_instr : Marks → Instr → Marks
marks_after_instr t (Lock m) = record t { held = slice_set t.held m true }
marks_after_instr t (Unlock m) = record t { held = slice_set t.held m false }
marks_after_instr t (Sleep c m) = record t { held = slice_set t.held m false }
marks_after_instr t (Wake c m) = record t { held = slice_set t.held m true }
marks_after_instr t (Create h f es) =
    record t { handles = slice_set t.handles h (Child (t.children + 1)); children = t.children + 1 }
marks_after_instr t (Join h) =
    record t { handles = slice_set t.handles h (Joined (child_number (handle_in t h))) }
marks_after_instr t Stbar = record t { bars = t.bars + 1 }
marks_after_instr t _ = t

-- the marks after some steps
abbrev pub marks_after : Marks → List Step → Marks
marks_after m [] = m
marks_after m (s ∷ steps) = marks_after (marks_after_instr m s.instr) steps

-- a step with its number, whether it fails, and the marks before it
pub record Marked : Type 0 where
  pub number : ℕ
  pub step : Step
  pub fails : Bool
  pub marks : Marks

-- the steps with their marks, numbered from k; the last one fails if the thread failed
abbrev pub marked_from : Bool → ℕ → Marks → List Step → List Marked
marked_from fails k t [] = []
marked_from fails k t (s ∷ rest) =
    record { number = k; step = s; fails = fails && length rest == 0; marks = t }
    ∷ marked_from fails (k + 1) (marks_after_instr t s.instr) rest

-- the steps, with their marks, of a thread that runs function f
abbrev pub marked_steps : Code → ℕ → Bool → List Step → List Marked
marked_steps code f fails steps = marked_from fails 0 (marks_at_start code f) steps
