-- The states of the cells of all mutexes, added to the clauses of a log.
use Rattle.std.specs.Prelude.{ℕ, suc, ◌+◌, ◌-◌, ◌==◌, ◌&&◌, Bool, true, false, not, nat_le, nat_lt, is_some, if◌then◌else◌, List, [], ℤ, pos, fold, filter, get_or, length, map, take, Option, Some, None, option_and_then, slice_get, sum_by}
use Rattle.std.specs.List.{enumerate_from, filter_map, flat_map, list_all, range_with_len}
use Rattle.std.specs.Option.{option_map_or}
use Rattle.std.specs.Ordering.{int_eq}
use Rattle.order_cells.specs.sym_exec.path_walk.tc_code.Code.{Code}
use Rattle.order_cells.specs.sym_exec.path_walk.tc_code.Expr.{names_slots}
use Rattle.order_cells.specs.sym_exec.path_walk.tc_code.tc_limits.declared.limits.TheConstants.{MUTEXES}
use Rattle.order_cells.specs.sym_exec.path_walk.Paths.{Paths}
use Rattle.order_cells.specs.sym_exec.path_walk.declared.event.Region.{Region}
use Rattle.circuit_sizes.specs.sym_terms.declared.node.Node.{Node}
use Rattle.order_cells.specs.sym_exec.Executed.{Symbolic}
use Rattle.order_cells.specs.sym_exec.declared.symbolic.Access.{Access}
use Rattle.order_cells.specs.sym_exec.tc_code.declared.cell.Cell.{Cell}
use Rattle.order_cells.specs.sym_exec.tc_code.declared.cell.Cell.TheVariants.{Fixed, Element}
use Rattle.order_cells.specs.sym_exec.declared.symbolic.Test.{Test}
use Rattle.mutex_regions.specs.order_events.order_formula.declared.formula.Conjunct.{Conjunct}
use Rattle.order_cells.specs.Same.{constant_of}
use Rattle.mutex_regions.specs.order_events.lawful_order.Cells.{value_at_start}
use Rattle.mutex_regions.specs.order_events.lawful_order.Events.{Placed, number_of}
use Rattle.cnf_core.specs.Clauses.{Formula}
use Rattle.bit_gates.specs.Folded.{Made, conjunction, constant}
use Rattle.bit_order.specs.Layouts.{load_word}
use Rattle.circuit_sizes.specs.bit_terms.Terms.{constant_word}
use Rattle.bit_blast.specs.Drafts.{Draft}
use Rattle.bit_blast.specs.Reads.{value_clauses, with_clauses}
use Rattle.bit_blast.specs.Whole.{load_words}
use Rattle.mutex_regions.specs.read_write.Accesses.{all_accesses}
use Rattle.mutex_regions.specs.Functions.{Doing, function_of, term_over}
use Rattle.mutex_regions.specs.Regions.{lies_in, regions_of}
use Rattle.mutex_regions.specs.Variables.{guarded, spots_of}
use Rattle.mutex_regions.specs.declared.variables.Spot.{Spot}
use Rattle.mutex_states.specs.InOrder.{in_order_made, is_of_mutex, read_literal, steps_before, used}
use Rattle.mutex_states.specs.Ranks.{begins_before, with_ranks}
use Rattle.mutex_states.specs.Sizes.{most_size, states_size}
use Rattle.mutex_states.specs.Steps.{State, Step, Tested, with_turns}

-- what is left of the room, and the clauses so far
pub record Added : Type 0 where
  pub draft : Draft
  pub room : ℕ

module _ (code : Code) (paths : Paths) (symbolic : Symbolic) (nodes : List Node)
    (formula : List Conjunct) where
  -- the first conjunct of a thread's tests: those of all threads are the last of the formula
  abbrev pub first_test : ℕ → ℕ
  first_test t =
      length formula - sum_by (λ c. length c.tests) symbolic.threads
      + sum_by (λ c. length c.tests) (take t symbolic.threads)

  module _ (m : ℕ) where
    abbrev pub does : Placed Region → Doing
    does r = function_of nodes (guarded paths symbolic m) (all_accesses symbolic) r

    -- a test of a thread, if it is an expression that depends on the state
    abbrev pub tested : Placed Region → ℕ × Test → Option Tested
    tested r x =
        option_and_then
        (λ e. if names_slots 0 e then None
        else Some (record { conjunct = first_test r.thread + x.0; test = e; wanted = x.1.wanted }))
        (term_over nodes (does r).loads x.1.term)

    -- what a region does, with at most 16 of the tests after its begin
    abbrev pub step_of : Placed Region → Step
    step_of r = record {
      does = does r;
      tests = take 16
          (option_map_or
          (λ c. filter_map (tested r)
          (filter (λ x. nat_lt r.it.«from» x.1.step) (enumerate_from 0 c.tests)))
          (slice_get symbolic.threads r.thread) []);
    }

    abbrev pub steps : List Step
    steps = map step_of (regions_of paths m)

    abbrev pub spots : List Spot
    spots = spots_of (guarded paths symbolic m)

    -- the words of the values at the start
    abbrev pub start_word : Spot → List ℤ
    start_word s =
        constant_word
        (if s.variable.is_array then pos 0 else value_at_start code (Fixed s.variable.first))

    -- a load after all regions takes the last state: no region is without an end, and none has it
    abbrev pub is_outside : Placed Access → Bool
    is_outside a = list_all (λ r. is_some r.it.to && not (lies_in r a)) (regions_of paths m)

    -- whether a cell is this one of the state in every world
    abbrev pub names_spot : Spot → Cell ℕ → Bool
    names_spot s (Fixed c) = not s.variable.is_array && s.variable.first == c
    names_spot s (Element f n i) =
        s.variable.is_array
        && (s.variable.first == f
        && option_map_or (int_eq (pos s.index)) (constant_of nodes i) false)

    module _ (d : Draft) (ordered : ℤ) (state : List (List ℤ)) where
      -- a region ends before an access
      abbrev pub ends_before : Placed Access → Placed Region → ℤ
      ends_before a r =
          option_map_or
          (λ k. steps_before paths symbolic formula d r.thread k a.thread a.it.step) r.it.to
          (constant false)

      -- all is in order, the load is right, and all regions end before it
      abbrev pub after_made : Formula → Placed Access → Made
      after_made f a =
          fold (λ all r. conjunction all.formula all.literal (ends_before a r))
          (conjunction f ordered (read_literal paths symbolic formula d a)) (regions_of paths m)

      -- then the load takes what the last state holds
      abbrev pub last_load_clauses : Placed Access → (load : ℕ) → (after : ℤ) → List (List ℤ)
      last_load_clauses a load after =
          flat_map
          (λ x. if names_spot x.1 a.it.cell
          then value_clauses after (constant true) (load_word d.layout load) (get_or state x.0 [])
          else []) (enumerate_from 0 spots)

      abbrev pub with_last_load : Placed Access → Formula → ℕ → Formula
      with_last_load a f load =
          let after : Made = after_made f a in
          with_clauses after.formula (last_load_clauses a load after.literal)

      abbrev pub with_last_loads : Formula → Formula
      with_last_loads f =
          fold (λ g a. option_map_or (with_last_load a g) a.it.takes g) f
          (filter is_outside (all_accesses symbolic))

    -- the events that begin the regions
    abbrev pub begins : List ℕ
    begins = map (λ r. number_of paths r.thread r.it.«from») (regions_of paths m)

    -- the states of the mutex's cells, from rank to rank
    abbrev pub with_states_of : Draft → Draft
    with_states_of d =
        let ordered : Made = in_order_made paths symbolic formula d m d.clauses in
        let first : State = record {
          formula = with_ranks (length begins) (begins_before d.layout begins) ordered.formula;
          words = map start_word spots;
        } in
        let last : State = with_turns (length spots) steps (load_words d.layout) d.roots
        ordered.literal (suc ordered.formula.vars) first in
        record d { clauses = with_last_loads d ordered.literal last.words last.formula }

    -- an upper bound on what the states add, from the conjuncts about the mutex and all accesses
    abbrev pub size : ℕ
    size =
        states_size (length spots) steps (length (filter (λ c. is_of_mutex m c.group) formula))
        (length (used paths symbolic m)) (length (all_accesses symbolic))

    -- whether the mutex has several regions and some variable, and its states have room
    abbrev pub has_states : (room : ℕ) → Bool
    has_states room =
        nat_le 2 (length steps) && (nat_le 1 (length spots) && nat_le size room)

  -- a mutex whose states have no room is left out
  abbrev pub with_mutex : Added → ℕ → Added
  with_mutex x m =
      if has_states m x.room
      then record { draft = with_states_of m x.draft; room = x.room - size m }
      else x

  -- a draft with the states of all mutexes
  abbrev pub with_states : Draft → Draft
  with_states d =
      (fold with_mutex (record { draft = d; room = most_size }) (range_with_len 0 MUTEXES)).draft
