-- What a formula says about the values that loads take.
use Rattle.std.specs.Prelude.{ℕ, ◌&&◌, Bool, true, not, List, [], ◌∷◌, Option, None, unwrap_or, option_map, option_and_then, slice_get, if◌then◌else◌}
use Rattle.std.specs.List.{filter_map, flat_map}
use Rattle.std.specs.Option.{option_map_or}
use Rattle.tc_code.specs.Code.{Code}
use Rattle.path_walk.specs.Paths.{Paths}
use Rattle.path_walk.specs.declared.event.Event.{Event}
use Rattle.sym_terms.specs.Terms.{id_of}
use Rattle.sym_terms.specs.declared.node.Node.{Node}
use Rattle.sym_terms.specs.declared.node.Node.TheVariants.{Constant, Symbol}
use Rattle.sym_exec.specs.Executed.{Symbolic}
use Rattle.sym_exec.specs.declared.symbolic.Access.{Access}
use Rattle.order_formula.specs.Reads as plain
use Rattle.order_formula.specs.declared.formula.Body.TheVariants as body
use Rattle.order_formula.specs.declared.formula.Conjunct.{Conjunct}
use Rattle.order_formula.specs.declared.group.Group.TheVariants as group
use Rattle.order_formula.specs.declared.read.Candidate.{Candidate}
use Rattle.order_cells.specs.lawful_order.Cells.{value_at_start}
use Rattle.order_cells.specs.lawful_order.Events.{Placed, all_events}
use Rattle.order_events.specs.Parts.{number_in}
use Rattle.order_cells.specs.Same.{known_same, same_test}
use Rattle.read_write.specs.Accesses.{all_accesses, is_one, is_earlier}

-- the line of a thread's step among events, or 0 if it isn't there
abbrev pub line_in : List (Placed Event) → (thread step : ℕ) → ℕ
line_in events t k = option_map_or (λ e. e.it.line) (slice_get events (number_in events t k)) 0

module _ (nodes : List Node) (load : Placed Access) where
  -- whether the load may see an access: not itself, and none that is known to be to another cell
  abbrev pub may_be_seen : Placed Access → Bool
  may_be_seen b = not (is_one b load) && unwrap_or (known_same nodes b.it.cell load.it.cell) true

  -- the test whether a write is to the load's cell, if the load may see it and that isn't known
  abbrev pub test_of : Placed Access → Option Node
  test_of b =
      if may_be_seen b
      then option_and_then (λ _. same_test nodes b.it.cell load.it.cell) b.it.writes else None

-- the nodes that a load needs: its value, its cell's initial value, and the tests
abbrev pub needs_of : Code → List (Placed Access) → List Node → Placed Access → ℕ → List Node
needs_of code accesses nodes load number =
    Symbol number ∷ Constant (value_at_start code load.it.cell)
    ∷ filter_map (test_of nodes load) accesses

-- the nodes that all loads need, one load after another
abbrev pub read_needs : Code → Symbolic → List Node → List Node
read_needs code symbolic nodes =
    let accesses = all_accesses symbolic in
    flat_map (λ a. option_map_or (needs_of code accesses nodes a) a.it.takes []) accesses

module _ (events : List (Placed Event)) (nodes : List Node) (load : Placed Access) where
  -- a write of the term `value`, as a candidate of the load
  abbrev pub candidate_with : Placed Access → ℕ → Candidate
  candidate_with b value = record {
    event = number_in events b.thread b.it.step;
    earlier = is_earlier b load;
    same_cell = option_map (id_of nodes) (same_test nodes b.it.cell load.it.cell);
    value = value;
  }

  -- an access as a candidate, if it is a write that the load may see
  abbrev pub candidate_of : Placed Access → Option Candidate
  candidate_of b =
      if may_be_seen nodes load b then option_map (candidate_with b) b.it.writes else None

module _ (code : Code) (events : List (Placed Event)) (accesses : List (Placed Access))
    (nodes : List Node) where
  -- the value of the load `number`; its candidates are all writes that it may see
  abbrev pub read_of : Placed Access → ℕ → plain.Read
  read_of load number = record {
    event = number_in events load.thread load.it.step;
    takes = id_of nodes (Symbol number);
    start = id_of nodes (Constant (value_at_start code load.it.cell));
    candidates = filter_map (candidate_of events nodes load) accesses;
  }

  -- the conjunct about a load's value, in the group of its thread and line
  abbrev pub conjunct_of : Placed Access → ℕ → Conjunct
  conjunct_of load number = record {
    group = group.Read load.thread (line_in events load.thread load.it.step);
    body = body.Read (read_of load number);
  }

-- a conjunct for each load
abbrev pub read_formula : Code → Paths → Symbolic → List Node → List Conjunct
read_formula code paths symbolic nodes =
    let accesses = all_accesses symbolic in
    filter_map
    (λ a. option_map (conjunct_of code (all_events paths) accesses nodes a) a.it.takes) accesses
