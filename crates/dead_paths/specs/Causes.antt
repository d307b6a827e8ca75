-- Why the paths of a log alone rule out every run.
use Rattle.std.specs.Prelude.{ℕ, ◌-◌, List, [], ◌∷◌, length, Bool, Option, Some, None, option_map, option_and_then, unwrap_or, slice_get}
use Rattle.std.specs.List.{find}
use Rattle.std.specs.Option.{option_map_or}
use Rattle.run_log.specs.Logs.{Log}
use Rattle.tc_base.specs.Paths.{ThreadPath}
use Rattle.tc_base.specs.Names.{Name, main}
use Rattle.tc_code.specs.Code.{Code, line_at}
use Rattle.path_walk.specs.Events.{is_impossible}
use Rattle.path_walk.specs.Fits.{fails_in}
use Rattle.path_walk.specs.Marks.{Marked, marked_steps}
use Rattle.path_walk.specs.Paths.{function_in, steps_in}
use Rattle.path_walk.specs.Steps.{Step}

-- a line and the thread that reaches it
pub record Cause : Type 0 where
  pub name : Name
  pub line : ℕ

-- the line of a step of a function
abbrev pub line_of : Code → ℕ → Marked → ℕ
line_of code f s = unwrap_or (line_at code f s.step.place) 0

-- the line of the first step that the path alone rules out, if any; `fails`: the last step fails
abbrev pub line_in : Code → ℕ → Bool → List Step → Option ℕ
line_in code f fails steps =
    option_map (line_of code f) (find is_impossible (marked_steps code f fails steps))

module _ (code : Code) (log : Log) where
  -- the line of a thread's first step that its path alone rules out, if any
  abbrev pub first_line : ThreadPath → Option ℕ
  first_line t = line_in code (function_in code log t) (fails_in log t.name) (steps_in code log t)

  -- the cause of the first thread that has one, if any
  abbrev pub first_cause : List ThreadPath → Option Cause
  first_cause [] = None
  first_cause (t ∷ ts) =
      option_map_or (λ line. Some (record { name = t.name; line = line })) (first_line t)
      (first_cause ts)

-- the line of the last instruction of main, which is its exit
abbrev pub exit_line : Code → ℕ
exit_line code = let main = length code.functions - 1 in
    unwrap_or
    (option_and_then (λ f. line_at code main (length f.instrs - 1))
    (slice_get code.functions main)) 0

-- the cause of the first thread in the log that has one; if none has, main's exit
abbrev pub cause_of : Code → Log → Cause
cause_of code log =
    unwrap_or (first_cause code log log.threads) (record { name = main; line = exit_line code })
