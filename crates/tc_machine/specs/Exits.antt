-- Threads that have exited.
use Rattle.std.specs.Prelude.{Bool, false}
use Rattle.std.specs.FinMap as fin
use Rattle.std.specs.List.{list_all}
use Rattle.std.specs.Option.{option_map_or}
use Rattle.tc_base.specs.Names.{Name}
use Rattle.tc_base.specs.States.{State}

module _ {B : Type 0} (s : State B) where
  -- whether the named thread exists and has exited
  abbrev pub has_exited : Name → Bool
  has_exited n = option_map_or (λ t. t.local.has_exited) (fin.get s.threads n) false

  -- whether every thread has exited
  abbrev pub all_have_exited : Bool
  all_have_exited = list_all has_exited (fin.keys s.threads)
