-- The last deed for which a function gives a value.
use Rattle.std.specs.Prelude.{◌≡◌, ℕ, ◌==◌, ℤ, Bool, true, false, ◌&&◌, Option, Some, None, List, [], ◌∷◌, ◌++◌, option_and_then, if◌then◌else◌}
use Rattle.std.specs.List.{filter_map}
use Rattle.store_buffers.specs.tc_base.Names.{Name}
use Rattle.store_buffers.specs.tc_base.declared.request.Request.TheVariants.{BeginWait, WakeOne, WakeAll}
use Rattle.run_history.specs.History.{Deed, Did, same}
use Rattle.run_history.specs.Told.{reaches}

-- some deed gives x, and no later deed gives anything
pub record IsLast {X : Type 0} (f : Deed → Option X) (h : List Deed) (x : X) : Type 0 where
  pub older : List Deed
  pub deed : Deed
  pub newer : List Deed
  pub there : h ≡ older ++ deed ∷ newer
  pub gives : f deed ≡ Some x
  pub last : filter_map f newer ≡ []

-- the value that a deed writes to a cell of memory, if it writes there
abbrev pub brings : Bool → ℕ → Deed → Option ℤ
brings buffered c d =
    option_and_then (λ e. if e.cell == c then Some e.value else None) (reaches buffered d)

-- whether a thread waits on a condition after a deed, if the deed begins or ends the wait
abbrev pub waits_by : ℕ → Name → Deed → Option Bool
waits_by c u (Did n k (BeginWait d m) took other) = if d == c && same u n then Some true else None
waits_by c u (Did n k (WakeOne d) took (Some w)) = if d == c && same u w then Some false else None
waits_by c u (Did n k (WakeAll d) took other) = if d == c then Some false else None
waits_by c u _ = None
