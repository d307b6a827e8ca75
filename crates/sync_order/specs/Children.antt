-- Conjuncts for children: the create comes before the child's events, and its exit before the join.
use Rattle.std.specs.Prelude.{ℕ, List, [], ◌∷◌, ◌++◌, map, filter, Bool, true, false, bytes_eq, if◌then◌else◌}
use Rattle.std.specs.List.{flat_map}
use Rattle.path_walk.specs.tc_base.Names.{child}
use Rattle.path_walk.specs.Paths.{Walk, Paths}
use Rattle.path_walk.specs.declared.event.Event.{Event}
use Rattle.path_walk.specs.declared.event.EventKind.{EventKind}
use Rattle.path_walk.specs.declared.event.EventKind.TheVariants as kind
use Rattle.path_walk.specs.declared.event.Link.{Link}
use Rattle.order_formula.specs.declared.literal.Literal.{Literal}
use Rattle.order_formula.specs.declared.formula.Conjunct.{Conjunct}
use Rattle.order_formula.specs.declared.group.Group.TheVariants.{Child}
use Rattle.order_events.specs.lawful_order.Events.{Placed, all_events}
use Rattle.order_events.specs.Parts.{of_each, comes_before, one_of}

-- whether an event is the exit of its thread
abbrev pub is_exit : EventKind → Bool
is_exit kind.Exit = true
is_exit _ = false

-- whether `thread` is the child `number` of `parent`
abbrev pub is_child : (parent : Walk) → ℕ → Walk → Bool
is_child parent number thread = bytes_eq thread.name (child parent.name number)

-- the results of f for each thread that is the child `number` of `parent`, concatenated
abbrev pub of_children : {X : Type 0} → List Walk → (parent : Walk) → ℕ → (ℕ → Walk → List X)
    → List X
of_children threads parent number f =
    of_each (λ c q. if is_child parent number q then f c q else []) threads

module _ (events : List (Placed Event)) where
  -- the create of the child c comes before its event x
  abbrev pub created_before : (t : ℕ) → Link → (c : ℕ) → Event → Conjunct
  created_before t l c x = one_of (Child c) (comes_before events t l.step c x.step ∷ [])

  -- an event of the child c comes before the join
  abbrev pub exit_before : (t : ℕ) → Link → (c : ℕ) → Event → Literal
  exit_before t l c x = comes_before events c x.step t l.step

  -- an exit of the child c comes before the join; if its path has no exit, no order meets this
  abbrev pub exited_before : (t : ℕ) → Link → (c : ℕ) → Walk → Conjunct
  exited_before t l c q =
      one_of (Child c) (map (exit_before t l c) (filter (λ x. is_exit x.kind) q.events))

  module _ (threads : List Walk) where
    -- the conjuncts of a create, of a join, and of all creates and joins of a thread
    abbrev pub create_conjuncts : (t : ℕ) → Walk → Link → List Conjunct
    create_conjuncts t parent l =
        of_children threads parent l.child (λ c q. map (created_before t l c) q.events)

    abbrev pub join_conjuncts : (t : ℕ) → Walk → Link → List Conjunct
    join_conjuncts t parent l =
        of_children threads parent l.child (λ c q. exited_before t l c q ∷ [])

    abbrev pub links_formula : (t : ℕ) → Walk → List Conjunct
    links_formula t q =
        flat_map (create_conjuncts t q) q.creates ++ flat_map (join_conjuncts t q) q.joins

abbrev pub children_formula : Paths → List Conjunct
children_formula paths = of_each (links_formula (all_events paths) paths.threads) paths.threads
