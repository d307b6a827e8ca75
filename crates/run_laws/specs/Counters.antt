-- The 32-bit counters of threads.
use Rattle.std.specs.Prelude.{◌≡◌, ◌+◌, ◌<◌, ◌^◌, Some}
use Rattle.std.specs.FinMap as map
use Rattle.tc_code.specs.tc_base.Names.{Name}
use Rattle.tc_code.specs.tc_base.States.{Local, Thread, State}

-- no counter is at its maximum
pub record IsBelowLast (t : Local) : Type 0 where
  pub steps : t.steps + 1 < 2 ^ 32
  pub children : t.children + 1 < 2 ^ 32

-- every thread can count one more step and one more child
abbrev pub CountersAreBelowLast : {B : Type 0} → State B → Type 0
CountersAreBelowLast {B} s =
    (n : Name) (t : Thread B) → map.get s.threads n ≡ Some t → IsBelowLast t.local
