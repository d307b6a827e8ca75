-- What a thread's path determines: its mutexes, its children and its end.
use Rattle.std.specs.Prelude.{ℕ, zero, suc, ◌+◌, List, [], ◌∷◌, ◌++◌, length, Bool, true, false, replicate, slice_set, slice_index_or}
use Rattle.std.specs.Option.{option_map_or}
use Rattle.tc_base.specs.Paths.{Path}
use Rattle.tc_code.specs.Code.{Code, instr_at}
use Rattle.tc_code.specs.Step.{handles_of}
use Rattle.tc_code.specs.declared.instr.Instr.{Instr}
use Rattle.tc_code.specs.declared.instr.Instr.TheVariants.{Lock, Unlock, Sleep, Wake, Create, Join}
use Rattle.thread_paths.specs.path_walk.Steps.{Onward, onward, is_site}

pub record Told : Type 0 where
  -- for each mutex, whether the thread holds it
  pub held : List Bool
  -- for each thread variable, the number of its child that isn't joined yet, or 0
  pub children : List ℕ
  -- the functions of the children created, in order
  pub created : List ℕ
  -- the numbers of the children joined
  pub joined : List ℕ
  -- the place after the last step
  pub place : ℕ
  -- whether there is a last step, and it is at a site or creates a child
  pub at_site : Bool
  pub at_create : Bool

-- nothing is determined before the first step of a function
abbrev pub untold : Code → ℕ → Told
untold code f = record {
  held = replicate code.mutexes false;
  children = replicate (handles_of code f) 0;
  created = [];
  joined = [];
  place = 0;
  at_site = false;
  at_create = false;
}

abbrev pub is_create : Instr → Bool
is_create (Create h f es) = true
is_create _ = false

-- the effect of an instruction on mutexes and children
abbrev pub changed : Told → Instr → Told
changed t (Lock m) = record t { held = slice_set t.held m true }
changed t (Wake c m) = record t { held = slice_set t.held m true }
changed t (Unlock m) = record t { held = slice_set t.held m false }
changed t (Sleep c m) = record t { held = slice_set t.held m false }
changed t (Create h f es) =
    record t
    { children = slice_set t.children h (length t.created + 1); created = t.created ++ f ∷ [] }
changed t (Join h) =
    record t
    { children = slice_set t.children h 0; joined = t.joined ++ slice_index_or t.children h 0 ∷ [] }
changed t _ = t

-- after an instruction that leads to this place
abbrev pub told_by : Told → Instr → ℕ → Told
told_by t i to = record (changed t i) { place = to; at_site = is_site i; at_create = is_create i }

-- after `n` more steps with these outcomes, as far as they lead
abbrev pub told_from : Code → ℕ → ℕ → List Bool → Told → Told
told_from code f zero outcomes t = t
told_from code f (suc n) outcomes t =
    option_map_or
    (λ i. option_map_or (λ (on : Onward). told_from code f n on.outcomes (told_by t i on.place))
    (onward t.place i outcomes) t)
    (instr_at code f t.place) t

-- what a path through a function determines
abbrev pub told : Code → ℕ → Path → Told
told code f p = told_from code f p.steps p.outcomes (untold code f)
