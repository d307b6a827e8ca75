-- What ends a run.
use Rattle.std.specs.Prelude.{ℕ, Bool, false, nat_lt, is_some, length, Option, Some, None, if◌then◌else◌}
use Rattle.std.specs.List.{list_any}
use Rattle.std.specs.Option.{option_map_or}
use Rattle.std.specs.FinMap as fin
use Rattle.tc_limits.specs.declared.limits.TheConstants.{THREADS, DEPTH, STEPS}
use Rattle.tc_base.specs.Names.{Name}
use Rattle.tc_base.specs.States.{State}
use Rattle.tc_base.specs.declared.failing.Failing.{Failing}
use Rattle.tc_base.specs.declared.failing.Failing.TheVariants as failing
use Rattle.tc_machine.specs.Exits.{all_have_exited}
use Rattle.tc_record.specs.declared.end.Which.{Which}
use Rattle.tc_record.specs.declared.end.Which.TheVariants.{Threads, Depth, Steps}
use Rattle.tc_record.specs.declared.end.End.{End}
use Rattle.tc_record.specs.declared.end.End.TheVariants.{Over, Failed, Finished, Deadlock}

-- the limit on a run's threads, depth or steps
abbrev pub limit_of : Which → ℕ
limit_of Threads = THREADS
limit_of Depth = DEPTH
limit_of Steps = STEPS

module _ {B : Type 0} (s : State B) where
  -- whether the named thread has done more steps than the limit
  abbrev pub has_many_steps : Name → Bool
  has_many_steps n =
      option_map_or (λ t. nat_lt (limit_of Steps) t.local.steps) (fin.get s.threads n) false

  -- whether some thread is deeper than the limit
  abbrev pub some_is_deep : Bool
  some_is_deep = list_any (λ n. nat_lt (limit_of Depth) (length n)) (fin.keys s.threads)

  abbrev pub some_has_many_steps : Bool
  some_has_many_steps = list_any has_many_steps (fin.keys s.threads)

  -- what ends a run after a move, if anything: the first limit that is exceeded, or a failure
  abbrev pub end_at : Option End
  end_at =
      if nat_lt (limit_of Threads) (length (fin.keys s.threads)) then Some (Over Threads)
      else if some_is_deep then Some (Over Depth)
      else if some_has_many_steps then Some (Over Steps)
      else if is_some s.failed then Some Failed
      else None

  -- what ends a run when no move is enabled
  abbrev pub end_without_moves : End
  end_without_moves = if all_have_exited s then Finished else Deadlock

-- the end that a log records
abbrev pub told_end : Failing → End
told_end (failing.Thread _) = Failed
told_end failing.Deadlock = Deadlock
