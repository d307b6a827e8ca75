-- The order in which the paths' events take place in a history, and worlds with that order.
use Rattle.std.specs.Prelude.{◌≡◌, ℕ, ◌<◌, Bool, true, false, ◌&&◌, List, ◌∷◌, ◌++◌, Some, slice_get}
use Rattle.std.specs.List.{list_any}
use Rattle.sym_events.specs.path_walk.Paths.{Walk, Paths}
use Rattle.sym_events.specs.path_walk.declared.event.Event.{Event}
use Rattle.sym_events.specs.path_walk.declared.event.Sleep.{Sleep}
use Rattle.sym_steps.specs.run_history.History.{Deed}
use Rattle.sym_events.specs.order_formula.Worlds.{World}
use Rattle.sym_events.specs.lawful_order.Events.{Placed, HasEvent, IsBefore, number_of}
use Rattle.sym_events.specs.lawful_order.Memory.{is_store}
use Rattle.sym_events.specs.lawful_order.Whole.{HasStep}
use Rattle.world_plan.specs.Sights.{Shows, AreInOrder}
use Rattle.run_lawful.specs.world.WorldOf.{is_step, ends_wait}

module _ (buffered : Bool) (paths : Paths) (h : List Deed) where
  -- the step k of the thread t takes place
  pub record TakesPlace (t k : ℕ) : Type 0 where
    pub older : List Deed
    pub deed : Deed
    pub newer : List Deed
    pub there : h ≡ older ++ deed ∷ newer
    pub shows : Shows buffered paths deed t k

  -- the step k of the thread t takes place before the step j of the thread u
  pub record TakesPlaceBefore (t k u j : ℕ) : Type 0 where
    pub older : List Deed
    pub first : Deed
    pub between : List Deed
    pub second : Deed
    pub newer : List Deed
    pub there : h ≡ (older ++ first ∷ between) ++ second ∷ newer
    pub shows_first : Shows buffered paths first t k
    pub shows_second : Shows buffered paths second u j

  pub record IsOrderOf (w : World) : Type 0 where
    -- what takes place earlier comes earlier in the world, and vice versa
    pub order : AreInOrder buffered paths w h
    pub back : (t k u j : ℕ) → HasStep paths t k → TakesPlace u j → IsBefore paths w t k u j
        → TakesPlaceBefore t k u j
    -- nothing takes place twice, and only events take place
    pub once : (older between newer : List Deed) (d e : Deed) (t k : ℕ)
        → h ≡ (older ++ d ∷ between) ++ e ∷ newer
        → Shows buffered paths d t k → Shows buffered paths e t k → ⊥
    pub events : (t k : ℕ) → TakesPlace t k → HasStep paths t k
    -- only stores in buffers may never take place; those come last, each thread's in program order
    pub done : (t : ℕ) (x : Event) → HasEvent paths t x → (buffered && is_store x.kind) ≡ false
        → TakesPlace t x.step
    pub never : (t k u j : ℕ) → TakesPlace t k → HasStep paths u j → (TakesPlace u j → ⊥)
        → IsBefore paths w t k u j
    pub rest : (t k j : ℕ) → HasStep paths t k → HasStep paths t j → (TakesPlace t k → ⊥)
        → (TakesPlace t j → ⊥) → k < j → IsBefore paths w t k t j

  -- the event g ends the sleep s: its deed is the first after s that ends the thread's wait
  pub record IsEndedBy (s : Placed Sleep) (g : ℕ) : Type 0 where
    pub sleeper : Walk
    pub sleeps : slice_get paths.threads s.thread ≡ Some sleeper
    pub older : List Deed
    pub sleep : Deed
    pub between : List Deed
    pub ender : Deed
    pub newer : List Deed
    pub there : h ≡ (older ++ sleep ∷ between) ++ ender ∷ newer
    pub begins : is_step sleeper.name s.it.step sleep ≡ true
    pub ends : ends_wait s.it.condition sleeper.name ender ≡ true
    pub lasts : list_any (ends_wait s.it.condition sleeper.name) between ≡ false
    pub thread : ℕ
    pub step : ℕ
    pub shows : Shows buffered paths ender thread step
    pub number : g ≡ number_of paths thread step
