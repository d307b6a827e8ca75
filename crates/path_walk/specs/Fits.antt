-- Which logs fit the code, and what is wrong with those that don't.
use Rattle.std.specs.Prelude.{◌≡◌, ℕ, zero, suc, ◌-◌, List, [], ◌∷◌, length, Bool, true, Option, Some, None, is_some, option_and_then, slice_get}
use Rattle.std.specs.Prelude.{if◌then◌else◌, bytes_eq, Result, Err}
use Rattle.std.specs.List.{filter_map}
use Rattle.std.specs.Option.{option_map_or}
use Rattle.std.specs.Result.{result_err, result_unwrap_or}
use Rattle.std.specs.Ordering.{is_lt}
use Rattle.tc_base.specs.Names.{Name, main, child, by_name}
use Rattle.run_log.specs.Logs.{Log, failing_of}
use Rattle.tc_base.specs.Paths.{path_under}
use Rattle.tc_code.specs.Code.{Code}
use Rattle.tc_code.specs.declared.instr.Instr.{Instr}
use Rattle.tc_code.specs.declared.instr.Instr.TheVariants.{Create}
use Rattle.path_walk.specs.Steps.{Step, is_failing, steps_at, places_of}
use Rattle.path_walk.specs.declared.ending.Ending.{Ending}
use Rattle.path_walk.specs.declared.ending.Ending.TheVariants.{Fails, Rests, Open}
use Rattle.path_walk.specs.declared.fault.Misfit.{Misfit}
use Rattle.path_walk.specs.declared.fault.Misfit.TheVariants as misfit
use Rattle.path_walk.specs.declared.fault.WalkFault.{WalkFault}
use Rattle.path_walk.specs.declared.fault.WalkFault.TheVariants.{Unfit, Memory}

-- the function of the child that an instruction creates, if any
abbrev pub starts : Instr → Option ℕ
starts (Create h f es) = Some f
starts _ = None

-- the functions of the children that steps create, in order
abbrev pub started : List Step → List ℕ
started steps = filter_map (λ s. starts s.instr) steps

-- how the named thread's path ends, given which thread failed; all threads rest if none did
abbrev pub ending_by : Option Name → Name → Ending
ending_by failed n = option_map_or (λ m. if bytes_eq n m then Fails else Open) failed Rests

abbrev pub ending_of : Log → Name → Ending
ending_of log n = ending_by (failing_of log) n

-- whether the named thread is the one that failed
abbrev pub fails_in : Log → Name → Bool
fails_in log n = is_failing (ending_of log n)

module _ (code : Code) (log : Log) where
  -- the places of the named thread's steps in function f, or what is wrong with its path
  abbrev pub places_or_misfit : Name → ℕ → Result (List ℕ) Misfit
  places_or_misfit n f =
      option_map_or (places_of code f (ending_of log n)) (path_under n log.threads)
      (Err misfit.Missing)

  -- the places of the named thread's steps in function f, and none if its path is wrong
  abbrev pub places_in : Name → ℕ → List ℕ
  places_in n f = result_unwrap_or (places_or_misfit n f) []

  -- the function of the thread's child k, from 1. A path with a fault counts no children, which is
  -- harmless: their names are greater than that of the faulty thread
  abbrev pub child_function : Name → ℕ → ℕ → Option ℕ
  child_function n f zero = None
  child_function n f (suc k) = slice_get (started (steps_at code f (places_in n f))) k

  -- the function of a descendant of thread n, which runs f, by the creates that lead to it
  abbrev pub function_below : Name → ℕ → List ℕ → Option ℕ
  function_below n f [] = Some f
  function_below n f (k ∷ ks) =
      option_and_then (λ g. function_below (child n k) g ks) (child_function n f k)

  -- the function of the named thread, if created: the last for main, that of the create for a child
  abbrev pub function_of : Name → Option ℕ
  function_of n = function_below main (length code.functions - 1) n

  -- what is wrong with a name that nothing creates: it must not be in the log
  abbrev pub unless_absent : Name → Option Misfit
  unless_absent n = if is_some (path_under n log.threads) then Some misfit.Stranger else None

  -- what is wrong with the named thread, if anything
  abbrev pub misfit_of : Name → Option Misfit
  misfit_of n =
      option_map_or (λ f. result_err (places_or_misfit n f)) (function_of n) (unless_absent n)

  -- nothing is wrong with any thread
  abbrev pub Fits : Type 0
  Fits = (n : Name) → misfit_of n ≡ None

  -- the named thread has this fault, and no lesser name has one
  pub record IsFirst (n : Name) (m : Misfit) : Type 0 where
    pub there : misfit_of n ≡ Some m
    pub least : (q : Name) → is_lt (by_name q n) ≡ true → misfit_of q ≡ None

-- the first fault of a log; nothing is said if memory ran out
abbrev pub IsFault : Code → Log → WalkFault → Type 0
IsFault code log (Unfit n m) = IsFirst code log n m
IsFault code log Memory = Unit {0}
