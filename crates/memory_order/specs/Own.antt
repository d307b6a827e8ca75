-- Conjuncts for the order of each thread's own events.
use Rattle.std.specs.Prelude.{ℕ, ◌==◌, Bool, true, false, not, ◌&&◌, ◌||◌, Option, Some, None, unwrap_or, option_and_then, option_to_list, if◌then◌else◌}
use Rattle.std.specs.Prelude.{List, [], ◌∷◌, ◌++◌, map, filter}
use Rattle.std.specs.List.{flat_map, list_any}
use Rattle.path_walk.specs.Paths.{Walk, Paths}
use Rattle.path_walk.specs.declared.event.Event.{Event}
use Rattle.path_walk.specs.declared.event.EventKind.{EventKind}
use Rattle.path_walk.specs.declared.event.EventKind.TheVariants as kind
use Rattle.store_buffers.specs.Pending.{Binding}
use Rattle.sym_terms.specs.Terms.{id_of}
use Rattle.sym_terms.specs.declared.node.Node.{Node}
use Rattle.sym_exec.specs.Executed.{Symbolic}
use Rattle.sym_exec.specs.tc_code.declared.cell.Cell.{Cell}
use Rattle.order_formula.specs.declared.formula.Conjunct.{Conjunct}
use Rattle.order_formula.specs.declared.group.Group.TheVariants.{Own}
use Rattle.order_formula.specs.declared.literal.Atom.TheVariants.{Test}
use Rattle.order_formula.specs.declared.literal.Literal.{Literal}
use Rattle.order_cells.specs.lawful_order.Events.{Placed, all_events}
use Rattle.order_cells.specs.lawful_order.Memory.{cell_of, is_store, may_overtake}
use Rattle.order_cells.specs.Same.{known_same, same_test}
use Rattle.order_events.specs.Parts.{of_each, comes_before, one_of}
use Rattle.memory_order.specs.Twos.{Two, twos}

abbrev pub is_failing : EventKind → Bool
is_failing kind.Fail = true
is_failing _ = false

-- whether an event has the position of its step; a store in a buffer has that of its drain
abbrev pub is_settled : (buffered : Bool) → EventKind → Bool
is_settled buffered k = not (buffered && is_store k)

-- whether x stays before a later y of its thread, given whether both are to the same cell
abbrev pub keeps : (buffered : Bool) → Binding → (same_cell : Bool) → (x y : Event) → Bool
keeps buffered bound same x y =
    is_settled buffered x.kind
    || (not (may_overtake y.kind) || is_store y.kind && bound same (not (x.bars == y.bars)))

-- the cells of two events of a thread
abbrev pub cells_of : Symbolic → (t : ℕ) → (x y : Event) → Option (Cell ℕ × Cell ℕ)
cells_of symbolic t x y =
    option_and_then (λ a. option_and_then (λ b. Some (a, b)) (cell_of symbolic t y.step))
    (cell_of symbolic t x.step)

module _ (buffered : Bool) (bound : Binding) (symbolic : Symbolic) (nodes : List Node) (t : ℕ) where
  -- whether x stays before y, whatever the indexes of their cells are
  abbrev pub is_always_kept : (x y : Event) → Bool
  is_always_kept x y =
      keeps buffered bound
      (unwrap_or
      (option_and_then (λ c. known_same nodes c.0 c.1) (cells_of symbolic t x y)) false) x y

  -- whether the first always stays before the second, and no event between them implies it
  abbrev pub is_kept_next : Two Event → Bool
  is_kept_next p =
      is_always_kept p.first p.second
      && not (list_any (λ z. is_always_kept p.first z && is_always_kept z p.second) p.between)

  -- the test that two indexes are equal, if the first stays before the second only then
  abbrev pub kept_test : Two Event → Option Node
  kept_test p =
      if keeps buffered bound true p.first p.second
      && not (keeps buffered bound false p.first p.second)
      then option_and_then (λ c. same_test nodes c.0 c.1) (cells_of symbolic t p.first p.second)
      else None

  abbrev pub two_tests : Two Event → List Node
  two_tests p = option_to_list (kept_test p)

  -- the tests of every two events of a thread
  abbrev pub thread_tests : Walk → List Node
  thread_tests q = flat_map two_tests (twos q.events)

-- the nodes that the formula needs
abbrev pub own_needs : (buffered : Bool) → Binding → Paths → Symbolic → List Node → List Node
own_needs buffered bound paths symbolic nodes =
    of_each (thread_tests buffered bound symbolic nodes) paths.threads

-- the literal that the test of a term doesn't pass
abbrev pub fails : ℕ → Literal
fails term = record { atom = Test term; wanted = false }

-- the literal that an event comes before a later one of its thread
abbrev pub in_order : List (Placed Event) → (t : ℕ) → Two Event → Literal
in_order events t p = comes_before events t p.first.step t p.second.step

module _ (buffered : Bool) (bound : Binding) (events : List (Placed Event)) (symbolic : Symbolic)
    (nodes : List Node) (t : ℕ) where
  -- the first event comes before the second, if it is kept and no event between them implies it
  abbrev pub next_formula : Two Event → List Conjunct
  next_formula p =
      if is_kept_next buffered bound symbolic nodes t p
      then one_of (Own t) (in_order events t p ∷ []) ∷ [] else []

  -- the first event comes before the second if the test of their indexes passes
  abbrev pub tested_formula : Two Event → List Conjunct
  tested_formula p =
      map (λ test. one_of (Own t) (fails (id_of nodes test) ∷ in_order events t p ∷ []))
      (two_tests buffered bound symbolic nodes t p)

  abbrev pub two_formula : Two Event → List Conjunct
  two_formula p = next_formula p ++ tested_formula p

  -- the conjuncts of every two events of a thread
  abbrev pub thread_formula : Walk → List Conjunct
  thread_formula q = flat_map two_formula (twos q.events)

-- the event x comes before the failing event f
abbrev pub before_failing : List (Placed Event) → (x f : Placed Event) → Conjunct
before_failing events x f =
    one_of (Own x.thread) (comes_before events x.thread x.it.step f.thread f.it.step ∷ [])

-- whether an event comes before the failing one: all others except stores in buffers
abbrev pub is_before_failing : (buffered : Bool) → Placed Event → Bool
is_before_failing buffered x = is_settled buffered x.it.kind && not (is_failing x.it.kind)

abbrev pub failing_formula : (buffered : Bool) → List (Placed Event) → List Conjunct
failing_formula buffered events =
    flat_map (λ x. map (before_failing events x) (filter (λ f. is_failing f.it.kind) events))
    (filter (is_before_failing buffered) events)

abbrev pub own_formula : (buffered : Bool) → Binding → Paths → Symbolic → List Node → List Conjunct
own_formula buffered bound paths symbolic nodes =
    of_each (thread_formula buffered bound (all_events paths) symbolic nodes) paths.threads
    ++ failing_formula buffered (all_events paths)
