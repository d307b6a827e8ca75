-- The loads of an execution, by their numbers.
use Rattle.std.specs.Prelude.{◌≡◌, ℕ, ◌<◌, Some}
use Rattle.std.specs.List.{Contains}
use Rattle.sym_exec.specs.Executed.{Symbolic}
use Rattle.sym_exec.specs.declared.symbolic.Access.{Access}
use Rattle.order_events.specs.lawful_order.Events.{Placed}
use Rattle.read_write.specs.Accesses.{all_accesses}

-- the number of each access's load is below this one
abbrev pub LoadsAreBelow : Symbolic → ℕ → Type 0
LoadsAreBelow symbolic loads =
    (a : Placed Access) (l : ℕ) → Contains (all_accesses symbolic) a → a.it.takes ≡ Some l
    → l < loads
