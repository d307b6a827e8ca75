-- The next step of a thread on its path.
use Rattle.std.specs.Prelude.{◌≡◌, ℕ, ◌+◌, ◌==◌, Bool, false, not, ◌&&◌, List, ◌++◌, length, Option, Some, None, slice_get, if◌then◌else◌}
use Rattle.std.specs.FinMap as fin
use Rattle.path_walk.specs.run_log.Logs.{Log}
use Rattle.path_walk.specs.tc_base.Names.{Name}
use Rattle.path_walk.specs.tc_base.States.{Local}
use Rattle.path_walk.specs.tc_code.Code.{Code, instr_at}
use Rattle.path_walk.specs.tc_code.Expr.{Expr}
use Rattle.path_walk.specs.tc_code.Step.{holds, handle_of, can_be_joined, instr_of, is_nonzero, value_in}
use Rattle.path_walk.specs.tc_code.declared.instr.Instr.{Instr}
use Rattle.path_walk.specs.tc_code.declared.instr.Instr.TheVariants.{Branch, Holds, Lock, Ready}
use Rattle.run_follows.specs.run_history.History.{Deed}
use Rattle.run_follows.specs.run_history.Locals.{locals_in}
use Rattle.run_follows.specs.run_history.Told.{steps_in}
use Rattle.path_walk.specs.Fits.{fails_in}
use Rattle.path_walk.specs.Paths.{Walk}

-- whether the next step of a thread is the one that fails
abbrev pub fails_next : Log → List Deed → Walk → Bool
fails_next log h w = fails_in log w.name && steps_in h w.name + 1 == length w.places

-- the thread, if its next step is the one that fails
abbrev pub failing_next : Log → List Deed → Walk → Option Name
failing_next log h w = if fails_next log h w then Some w.name else None

-- a thread's next instruction is the one at the next place of its path
pub record IsNextOnPath (code : Code) (h : List Deed) (w : Walk) : Type 0 where
  pub local : Local
  pub there : fin.get (locals_in code h) w.name ≡ Some local
  pub steps : local.steps ≡ steps_in h w.name
  pub function : local.function ≡ w.function
  pub place : slice_get w.places (steps_in h w.name) ≡ Some local.instruction
  pub instr : Instr
  pub at : instr_at code w.function local.instruction ≡ Some instr
  pub next : instr_of code local ≡ Some instr
  -- the thread has used a prefix of its outcomes
  pub later : List Bool
  pub outcomes : w.outcomes ≡ local.outcomes ++ later

-- a site of a mutex or a thread variable passes unless it should fail; a mutex to lock isn't held
abbrev pub IsAsWanted : (fails : Bool) → Local → Instr → Type 0
IsAsWanted fails t (Holds m) = holds t m ≡ not fails
IsAsWanted fails t (Ready v) = can_be_joined (handle_of t v) ≡ not fails
IsAsWanted fails t (Lock m) = holds t m ≡ false
IsAsWanted fails t _ = Unit {0}

-- a branch takes the next outcome of the path
abbrev pub BranchesAlong : Walk → Local → Instr → Type 0
BranchesAlong w t i =
    (e : Expr) (to : ℕ) → i ≡ Branch e to
    → slice_get w.outcomes (length t.outcomes) ≡ Some (is_nonzero (value_in t e))
