-- Conjuncts for a deadlock: at the end, no thread that hasn't exited can go on.
use Rattle.std.specs.Prelude.{ℕ, List, [], ◌∷◌, map, Bool, not, ◌&&◌, ◌==◌, is_none, option_to_list, if◌then◌else◌}
use Rattle.std.specs.List.{list_any}
use Rattle.path_walk.specs.Paths.{Walk, Paths}
use Rattle.path_walk.specs.declared.event.Blocked.{Blocked}
use Rattle.path_walk.specs.declared.event.Blocked.TheVariants.{Lock, Wake, Join}
use Rattle.path_walk.specs.declared.event.Event.{Event}
use Rattle.path_walk.specs.declared.event.Region.{Region}
use Rattle.path_walk.specs.declared.event.Sleep.{Sleep}
use Rattle.order_formula.specs.declared.literal.Atom.TheVariants.{Ends}
use Rattle.order_formula.specs.declared.literal.Literal.{Literal}
use Rattle.order_formula.specs.declared.formula.Body.TheVariants.{Any}
use Rattle.order_formula.specs.declared.formula.Conjunct.{Conjunct}
use Rattle.order_formula.specs.declared.group.Group.TheVariants.{Stuck}
use Rattle.order_events.specs.lawful_order.Events.{Placed, all_events, all_sleeps}
use Rattle.order_events.specs.Parts.{of_each}
use Rattle.condition_order.specs.declared.wait.Ender.{Ender}
use Rattle.condition_order.specs.Conditions.{enders, fails}
use Rattle.sync_order.specs.Children.{is_child, is_exit}

-- whether a region is of the mutex and has no end
abbrev pub is_open : ℕ → Region → Bool
is_open m r = r.mutex == m && is_none r.to

-- the cases of a constant: one without literals for true, none for false
abbrev pub cases_if : Bool → List (List Literal)
cases_if b = if b then [] ∷ [] else []

-- the literal that an ender doesn't end the sleep s
abbrev pub not_ended_literal : (s : ℕ) → Ender → Literal
not_ended_literal s g = fails (Ends s g.event)

module _ (events : List (Placed Event)) where
  -- no ender of the condition c ends the sleep s
  abbrev pub unended : (s c : ℕ) → List Literal
  unended s c = map (not_ended_literal s) (enders events c)

  -- no ender ends the sleep s, if the step `step` of the thread t begins it
  abbrev pub sleeping : (t step : ℕ) → (s : ℕ) → Placed Sleep → List Literal
  sleeping t k s x = if x.thread == t && x.it.step == k then unended s x.it.condition else []

  -- no ender ends the sleep that a thread's step begins
  abbrev pub sleeps_on : List (Placed Sleep) → (t step : ℕ) → List Literal
  sleeps_on sleeps t k = of_each (sleeping t k) sleeps

module _ (threads : List Walk) where
  -- whether a thread holds the mutex at the end
  abbrev pub is_held : ℕ → Bool
  is_held m = list_any (λ q. list_any (is_open m) q.regions) threads

  -- whether the child `number` of `parent` has exited
  abbrev pub has_exited : (parent : Walk) → ℕ → Bool
  has_exited parent number =
      list_any (λ q. is_child parent number q && list_any (λ x. is_exit x.kind) q.events) threads

module _ (paths : Paths) where
  -- the cases in which a blocked thread can't go on
  abbrev pub cannot_go_on : (t : ℕ) → Walk → Blocked → List (List Literal)
  cannot_go_on t q (Lock m) = cases_if (is_held paths.threads m)
  cannot_go_on t q (Wake c m k) =
      if is_held paths.threads m then [] ∷ []
      else sleeps_on (all_events paths) (all_sleeps paths) t k ∷ []
  cannot_go_on t q (Join k) = cases_if (not (has_exited paths.threads q k))

  abbrev pub stuck_at : (t : ℕ) → Walk → Blocked → Conjunct
  stuck_at t q b = record { group = Stuck t; body = Any (cannot_go_on t q b) }

  abbrev pub stuck_formula : List Conjunct
  stuck_formula = of_each (λ t q. map (stuck_at t q) (option_to_list q.blocked)) paths.threads
