-- Worlds: an order of all events, the values of loads, and the event that ends each sleep.
use Rattle.std.specs.Prelude.{ℕ, ℤ, List, Option, Some, None, get_or, Bool, ◌==◌, nat_eq, nat_lt}
use Rattle.std.specs.List.{IsDistinct}
use Rattle.std.specs.Option.{option_eq}

-- Events, loads and sleeps are numbered in the order of thread names, then of steps.
pub record World : Type 0 where
  -- the position of each event
  pub positions : List ℕ
  -- the value that each load takes
  pub loads : List ℤ
  -- the event that ends each sleep, if one does
  pub enders : List (Option ℕ)

-- no two events have the same position
pub record IsWorld (w : World) : Type 0 where
  pub distinct : IsDistinct (λ p q. p == q) w.positions

-- the position of an event, or 0 if there is no such event
abbrev pub position : World → ℕ → ℕ
position w event = get_or w.positions event 0

-- whether an event comes before another
abbrev pub is_before : World → (first second : ℕ) → Bool
is_before w first second = nat_lt (position w first) (position w second)

-- whether an event ends a sleep
abbrev pub is_ended : World → (sleep by : ℕ) → Bool
is_ended w sleep by = option_eq nat_eq (get_or w.enders sleep None) (Some by)
