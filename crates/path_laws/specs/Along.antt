-- A thread of a run, and its path so far.
use Rattle.std.specs.Prelude.{◌≡◌, ℕ, List, length, false, Ok}
use Rattle.std.specs.List.{list_any}
use Rattle.path_walk.specs.tc_base.States.{Local}
use Rattle.path_walk.specs.tc_code.Code.{Code}
use Rattle.path_walk.specs.Steps.{places_from, end_from, steps_at}
use Rattle.path_walk.specs.Fits.{started}
use Rattle.path_walk.specs.Marks.{Marks, marks_at_start, marks_after, marked_steps}
use Rattle.path_walk.specs.Events.{is_impossible}

-- a thread has the mutexes, thread variables and children that the marks say
pub record HasMarks (t : Local) (m : Marks) : Type 0 where
  pub held : m.held ≡ t.held
  pub handles : m.handles ≡ t.handles
  pub children : m.children ≡ t.children

-- the thread's path so far has these places and leads to the thread's state
pub record IsAlong (code : Code) (t : Local) (places : List ℕ) : Type 0 where
  pub told : places_from code t.function t.steps 0 t.outcomes ≡ Ok places
  pub end : end_from code t.function t.steps 0 t.outcomes ≡ t.instruction
  pub marks : HasMarks t
      (marks_after (marks_at_start code t.function) (steps_at code t.function places))
  pub children : length (started (steps_at code t.function places)) ≡ t.children
  -- the path alone rules out none of these steps
  pub possible : list_any is_impossible
      (marked_steps code t.function false (steps_at code t.function places)) ≡ false
