-- The numbers of the paths' events and sleeps, and their positions in a world.
use Rattle.std.specs.Prelude.{◌≡◌, ℕ, ◌+◌, ◌<◌, ◌==◌, ◌&&◌, List, [], ◌∷◌, ◌++◌, map, Option, Some, slice_get, get_or, None}
use Rattle.std.specs.List.{Contains, position_or_len}
use Rattle.store_buffers.specs.tc_base.Names.{child}
use Rattle.sym_exec.specs.path_walk.Paths.{Walk, Paths}
use Rattle.sym_exec.specs.path_walk.declared.event.Event.{Event}
use Rattle.sym_exec.specs.path_walk.declared.event.Region.{Region}
use Rattle.sym_exec.specs.path_walk.declared.event.Sleep.{Sleep}
use Rattle.sym_exec.specs.path_walk.declared.event.Link.{Link}
use Rattle.order_formula.specs.Worlds.{World, position}
use Rattle.lawful_order.specs.declared.placed.Placed as item

-- an item with its thread
abbrev pub Placed : Type 0 → Type 0
Placed X = item.Placed X

-- the items of a thread
abbrev pub placed_in : {X : Type 0} → ℕ → List X → List (Placed X)
placed_in t xs = map (λ x. record { thread = t; it = x }) xs

-- the items of all threads, one thread after another
abbrev pub all_from : {W X : Type 0} → (W → List X) → ℕ → List W → List (Placed X)
all_from has t [] = []
all_from has t (w ∷ ws) = placed_in t (has w) ++ all_from has (t + 1) ws

-- all events, and all sleeps; the index of an event or sleep is its number
abbrev pub all_events : Paths → List (Placed Event)
all_events paths = all_from (λ w. w.events) 0 paths.threads

abbrev pub all_sleeps : Paths → List (Placed Sleep)
all_sleeps paths = all_from (λ w. w.sleeps) 0 paths.threads

-- the number of the event that is the step `step` of a thread
abbrev pub number_of : Paths → (thread step : ℕ) → ℕ
number_of paths t k = position_or_len (λ e. e.thread == t && e.it.step == k) (all_events paths)

-- the items, events, regions, creates and joins that the thread t has
module _ (paths : Paths) (t : ℕ) where
  abbrev pub Has : {X : Type 0} → (Walk → List X) → X → Type 0
  Has has x = (w : Walk) × (slice_get paths.threads t ≡ Some w) × Contains (has w) x

  abbrev pub HasEvent : Event → Type 0
  HasEvent = Has (λ w. w.events)

  abbrev pub HasRegion : Region → Type 0
  HasRegion = Has (λ w. w.regions)

  abbrev pub Creates : Link → Type 0
  Creates = Has (λ w. w.creates)

  abbrev pub Joins : Link → Type 0
  Joins = Has (λ w. w.joins)

-- `thread` is the child `number` of `parent`
abbrev pub IsChild : Paths → (parent number thread : ℕ) → Type 0
IsChild paths t k c =
    (p : Walk) × (q : Walk) × (slice_get paths.threads t ≡ Some p)
    × (slice_get paths.threads c ≡ Some q) × (q.name ≡ child p.name k)

-- the position of a thread's step in a world, and that one step comes before another
module _ (paths : Paths) (w : World) where
  abbrev pub place_of : (thread step : ℕ) → ℕ
  place_of t k = position w (number_of paths t k)

  abbrev pub IsBefore : (t k u j : ℕ) → Type 0
  IsBefore t k u j = place_of t k < place_of u j

-- the event that ends a sleep, if one does
abbrev pub ender_of : World → ℕ → Option ℕ
ender_of w sleep = get_or w.enders sleep None
