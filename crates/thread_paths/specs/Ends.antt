-- Which paths a thread may take through its function.
use Rattle.std.specs.Prelude.{◌≡◌, ℕ, ◌-◌, ◌==◌, List, length, Bool, true, false, ◌&&◌, ◌||◌, Ok, slice_get}
use Rattle.std.specs.List.{list_any}
use Rattle.std.specs.Option.{option_map_or}
use Rattle.tc_code.specs.tc_base.Paths.{Path}
use Rattle.tc_code.specs.Code.{Code}
use Rattle.tc_code.specs.declared.instr.Instr.{Instr}
use Rattle.tc_code.specs.declared.instr.Instr.TheVariants as instr
use Rattle.thread_marks.specs.path_walk.Events.{is_impossible}
use Rattle.thread_marks.specs.path_walk.Marks.{marked_steps}
use Rattle.thread_marks.specs.path_walk.Steps.{step_at, steps_at, places_from, ends_at_site, can_block, standing}
use Rattle.thread_paths.specs.declared.aim.Aim.{Aim}
use Rattle.thread_paths.specs.declared.aim.End.{End}
use Rattle.thread_paths.specs.declared.aim.End.TheVariants.{Exit, Used, Open, Rest}

-- whether an instruction is an exit
abbrev pub is_exit : Instr → Bool
is_exit instr.Exit = true
is_exit _ = false

-- whether another thread may use the effect of an instruction
abbrev pub is_used : Instr → Bool
is_used (instr.Store c e) = true
is_used (instr.Modify k c u) = true
is_used (instr.Unlock m) = true
is_used (instr.Sleep c m) = true
is_used (instr.Signal c) = true
is_used (instr.Broadcast c) = true
is_used (instr.Create h f es) = true
is_used _ = false

module _ (code : Code) (f : ℕ) where
  -- whether there is a last step, and it is of this kind
  abbrev pub last_is : (Instr → Bool) → List ℕ → Bool
  last_is kind places =
      option_map_or (λ k. kind (step_at code f k).instr)
      (slice_get places (length places - 1)) false

  -- whether a path to these places ends as it should, if the thread doesn't fail
  abbrev pub has_end : End → Path → List ℕ → Bool
  has_end Exit p places = last_is is_exit places
  has_end Used p places = last_is is_used places
  has_end Open p places = p.steps == 0 || last_is is_used places
  has_end Rest p places = option_map_or can_block (standing code f p) true

  -- whether a thread fails at the end of its path: it may fail, and the path ends at a site
  abbrev pub fails_at_end : Aim → List ℕ → Bool
  fails_at_end aim places = aim.may_fail && ends_at_site code f places

  -- a thread that runs the function may take this path
  pub record MayTake (aim : Aim) (p : Path) : Type 0 where
    pub places : List ℕ
    pub along : places_from code f p.steps 0 p.outcomes ≡ Ok places
    -- the path alone doesn't rule out every run
    pub possible : list_any is_impossible
        (marked_steps code f (fails_at_end aim places) (steps_at code f places)) ≡ false
    pub ends : (fails_at_end aim places || has_end aim.end p places) ≡ true
