-- The rules of condition variables as conjuncts about a sleep and its condition's enders.
use Rattle.std.specs.Prelude.{ℕ, ◌==◌, nat_lt, true, false, not, if◌then◌else◌, List, [], ◌∷◌, ◌++◌, map, Option, Some, None}
use Rattle.std.specs.List.{enumerate_from, filter, filter_map, flat_map}
use Rattle.std.specs.Option.{option_map, option_map_or}
use Rattle.path_walk.specs.Paths.{Paths}
use Rattle.path_walk.specs.declared.event.Event.{Event}
use Rattle.path_walk.specs.declared.event.Sleep.{Sleep}
use Rattle.order_formula.specs.declared.literal.Atom.{Atom}
use Rattle.order_formula.specs.declared.literal.Atom.TheVariants.{Before, Ends}
use Rattle.order_formula.specs.declared.literal.Literal.{Literal}
use Rattle.order_formula.specs.declared.formula.Body.TheVariants.{Any}
use Rattle.order_formula.specs.declared.formula.Conjunct.{Conjunct}
use Rattle.order_formula.specs.declared.group.Group.TheVariants.{Condition}
use Rattle.order_events.specs.lawful_order.Events.{Placed, all_events, all_sleeps}
use Rattle.order_events.specs.lawful_order.Conditions.{is_signal, is_broadcast}
use Rattle.order_events.specs.Parts.{number_in, one_of}
use Rattle.condition_order.specs.declared.wait.Wait.{Wait}
use Rattle.condition_order.specs.declared.wait.Ender.{Ender}

-- an event as an ender: a signal or a broadcast of the condition c
abbrev pub ender_by : ℕ → ℕ × Placed Event → Option Ender
ender_by c e =
    if is_signal c e.1.it.kind then Some (record { event = e.0; all = false })
    else if is_broadcast c e.1.it.kind then Some (record { event = e.0; all = true }) else None

-- the enders of a condition among events
abbrev pub enders : List (Placed Event) → ℕ → List Ender
enders events c = filter_map (ender_by c) (enumerate_from 0 events)

-- a sleep with its number and the numbers of its events
abbrev pub wait_of : List (Placed Event) → ℕ × Placed Sleep → Wait
wait_of events e = record {
  sleep = e.0;
  condition = e.1.it.condition;
  begins = number_in events e.1.thread e.1.it.step;
  wakes = option_map (number_in events e.1.thread) e.1.it.wake;
}

-- all sleeps, with their numbers and those of their events
abbrev pub waits : List (Placed Event) → List (Placed Sleep) → List Wait
waits events sleeps = map (wait_of events) (enumerate_from 0 sleeps)

-- the numbers of the sleeps on a condition
abbrev pub sleeps_on : List Wait → ℕ → List ℕ
sleeps_on all c = map (λ x. x.sleep) (filter (λ x. x.condition == c) all)

-- the literal that an atom is true, and the literal that it is false
abbrev pub holds : Atom → Literal
holds a = record { atom = a; wanted = true }

abbrev pub fails : Atom → Literal
fails a = record { atom = a; wanted = false }

-- the cases in which an ender ends one of the sleeps rs
abbrev pub cases_one : Ender → List ℕ → List (List Literal)
cases_one g rs = map (λ r. holds (Ends r g.event) ∷ []) rs

module _ (x : Wait) where
  -- the conjunct that one of the cases holds
  abbrev pub about : List (List Literal) → Conjunct
  about cases = record { group = Condition x.condition; body = Any cases }

  -- if g ends the sleep, g comes after the sleep has begun
  abbrev pub begun : Ender → Conjunct
  begun g =
      one_of (Condition x.condition)
      (fails (Ends x.sleep g.event) ∷ holds (Before x.begins g.event) ∷ [])

  -- one of the enders ends the sleep
  abbrev pub ended : List Ender → Conjunct
  ended es = about (map (λ g. holds (Ends x.sleep g.event) ∷ []) es)

  -- if g ends the sleep, g comes before the event `wake`
  abbrev pub ended_before : ℕ → Ender → Conjunct
  ended_before wake g =
      one_of (Condition x.condition)
      (fails (Ends x.sleep g.event) ∷ holds (Before g.event wake) ∷ [])

  -- if the thread wakes, one of the enders ends the sleep before that
  abbrev pub woken : List Ender → List Conjunct
  woken es = option_map_or (λ wake. ended es ∷ map (ended_before wake) es) x.wakes []

  -- g doesn't end both this sleep and the sleep r
  abbrev pub not_both : Ender → ℕ → Conjunct
  not_both g r =
      one_of (Condition x.condition) (fails (Ends x.sleep g.event) ∷ fails (Ends r g.event) ∷ [])

  -- a signal that ends this sleep ends none of rs with a higher number
  abbrev pub ends_no_later : List ℕ → Ender → List Conjunct
  ends_no_later rs g = if g.all then [] else map (not_both g) (filter (λ r. nat_lt x.sleep r) rs)

  -- the cases in which another ender ends the sleep before g
  abbrev pub cases_before : List Ender → Ender → List (List Literal)
  cases_before es g =
      map (λ h. holds (Ends x.sleep h.event) ∷ holds (Before h.event g.event) ∷ [])
      (filter (λ h. not (h.event == g.event)) es)

  -- g isn't lost: if the sleep waits at g, a broadcast g ends it, and a signal g ends one of rs
  abbrev pub not_lost : List Ender → List ℕ → Ender → Conjunct
  not_lost es rs g =
      about ((fails (Before x.begins g.event) ∷ []) ∷ cases_before es g
      ++ cases_one g (if g.all then x.sleep ∷ [] else rs))

  -- all conjuncts of the sleep, given the enders and the sleeps of its condition
  abbrev pub wait_formula : List Ender → List ℕ → List Conjunct
  wait_formula es rs =
      map begun es ++ (woken es ++ (flat_map (ends_no_later rs) es ++ map (not_lost es rs) es))

-- the conjuncts of one wait
abbrev pub formula_of : List (Placed Event) → List Wait → Wait → List Conjunct
formula_of events all x = wait_formula x (enders events x.condition) (sleeps_on all x.condition)

-- the conjuncts of all waits, one after another
abbrev pub formula_among : List (Placed Event) → List Wait → List Conjunct
formula_among events all = flat_map (formula_of events all) all

-- all waits of the paths, and all conjuncts about conditions
abbrev pub all_waits : Paths → List Wait
all_waits paths = waits (all_events paths) (all_sleeps paths)

abbrev pub condition_formula : Paths → List Conjunct
condition_formula paths = formula_among (all_events paths) (all_waits paths)
