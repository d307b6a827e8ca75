-- What a thread's own steps leave behind that decides whether a later step is possible.
use Rattle.std.specs.Prelude.{ℕ, Bool, false, List, map, replicate}
use Rattle.tc_code.specs.Code.{Code}
use Rattle.tc_code.specs.Step.{can_be_joined, handles_of}
use Rattle.path_walk.specs.Marks.{Marks}

pub record Own : Type 0 where
  -- for each mutex, whether the thread holds it
  pub held : List Bool
  -- for each thread variable, whether its child can be joined
  pub joinable : List Bool

abbrev pub own_of : Marks → Own
own_of t = record { held = t.held; joinable = map can_be_joined t.handles }

-- the start of a function: nothing is held, and no child can be joined
abbrev pub nothing_own : Code → ℕ → Own
nothing_own code f =
    record { held = replicate code.mutexes false; joinable = replicate (handles_of code f) false }
