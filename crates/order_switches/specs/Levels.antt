-- Levels of events, which bound the number of context switches in a world.
use Rattle.std.specs.Prelude.{◌≡◌, ◌≢◌, ℕ, ◌<◌, ◌≤◌, List, length, get_or, true, Option}
use Rattle.order_formula.specs.Worlds.{World, is_before, position}
use Rattle.order_switches.specs.Switches.{end_at}

-- the event e counts: it doesn't come after the failing event, if there is one
abbrev pub Counts : Option ℕ → World → ℕ → Type 0
Counts failing w e = position w e < end_at failing w

-- of two events that count, of different threads, the later has a higher level; no level exceeds k
pub record AreLevels (threads : List ℕ) (failing : Option ℕ) (w : World) (k : ℕ)
    (level : ℕ → ℕ) : Type 0 where
  pub rise : (e f : ℕ) → e < length threads → f < length threads
      → get_or threads e 0 ≢ get_or threads f 0 → is_before w e f ≡ true
      → Counts failing w f → level e < level f
  pub most : (f : ℕ) → f < length threads → Counts failing w f → level f ≤ k
