-- The paths of a state's threads, and what is known of the state when its log is made.
use Rattle.std.specs.Prelude.{◌≡◌, ◌<◌, [], false, nat_lt, length, slice_get, None, IsSome, IfSome}
use Rattle.std.specs.Option.{option_map_or}
use Rattle.std.specs.FinMap as fin
use Rattle.tc_base.specs.Names.{Name}
use Rattle.tc_base.specs.States.{State}
use Rattle.tc_base.specs.Paths.{Path, ThreadPath}
use Rattle.tc_base.specs.declared.failing.Failing.{Failing}
use Rattle.tc_base.specs.declared.failing.Failing.TheVariants.{Thread, Deadlock}
use Rattle.tc_code.specs.Run.{path_of}
use Rattle.tc_record.specs.Ends.{limit_of, some_is_deep, some_has_many_steps}
use Rattle.tc_record.specs.declared.end.Which.TheVariants.{Threads}

module _ {B : Type 0} (s : State B) where
  -- the path of the named thread, or a path without steps if there is no such thread
  abbrev pub path_at : Name → Path
  path_at n = option_map_or path_of (fin.get s.threads n) (record { outcomes = []; steps = 0 })

  -- the path of the named thread, with the name
  abbrev pub named_path : Name → ThreadPath
  named_path n = record { name = n; path = path_at n }

  -- the state is within each limit
  pub record IsWithin : Type 0 where
    pub threads : nat_lt (limit_of Threads) (length (fin.keys s.threads)) ≡ false
    pub depth : some_is_deep s ≡ false
    pub steps : some_has_many_steps s ≡ false

  -- the state has a thread, and the thread that failed, if any, exists
  pub record HasThreads : Type 0 where
    pub some : 0 < length (fin.keys s.threads)
    pub failed : IfSome s.failed (λ n. IsSome (fin.get s.threads n))

  -- the thread at this index has failed, or, for a deadlock, none has
  abbrev pub EndsBy : Failing → Type 0
  EndsBy (Thread k) = IsSome s.failed × (slice_get (fin.keys s.threads) k ≡ s.failed)
  EndsBy Deadlock = s.failed ≡ None
