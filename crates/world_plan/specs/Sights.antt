-- What other threads see of a history: its events, in the order in which they take place.
use Rattle.std.specs.Prelude.{◌≡◌, ℕ, Bool, ◌&&◌, Option, Some, None, option_and_then, List, ◌∷◌, ◌++◌, slice_get, if◌then◌else◌}
use Rattle.order_events.specs.tc_base.Names.{Name}
use Rattle.sym_laws.specs.run_history.History.{Deed, Did, Drained}
use Rattle.order_events.specs.path_walk.Paths.{Walk, Paths}
use Rattle.sym_laws.specs.path_laws.Deeds.{kind_of}
use Rattle.order_events.specs.order_formula.Worlds.{World}
use Rattle.order_events.specs.lawful_order.Events.{IsBefore}
use Rattle.order_events.specs.lawful_order.Memory.{is_store}

-- a thread's step
pub record Sight : Type 0 where
  pub thread : Name
  pub step : ℕ

-- the event that takes place by a deed, if any; a store that waits in a buffer does when it drains
abbrev pub sight_of : Bool → Deed → Option Sight
sight_of buffered (Did n k r took other) =
    option_and_then
    (λ kind. if buffered && is_store kind then None else Some (record { thread = n; step = k }))
    (kind_of r other)
sight_of buffered (Drained n k c v) = Some (record { thread = n; step = k })

-- the step k of the thread t takes place by the deed d
pub record Shows (buffered : Bool) (paths : Paths) (d : Deed) (t k : ℕ) : Type 0 where
  pub walk : Walk
  pub there : slice_get paths.threads t ≡ Some walk
  pub sight : sight_of buffered d ≡ Some (record { thread = walk.name; step = k })

-- events take place in the order of a world
abbrev pub AreInOrder : Bool → Paths → World → List Deed → Type 0
AreInOrder buffered paths w h =
    (older between newer : List Deed) (d e : Deed) (t k u j : ℕ)
    → h ≡ (older ++ d ∷ between) ++ e ∷ newer
    → Shows buffered paths d t k → Shows buffered paths e u j → IsBefore paths w t k u j
