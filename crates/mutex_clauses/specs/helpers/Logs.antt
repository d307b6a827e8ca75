-- A log with the literals and words of a draft, and what belongs to one mutex of it.
use Rattle.std.specs.Prelude.{◌≡◌, ℕ, ◌+◌, ◌-◌, ◌*◌, ◌≤◌, List, ℤ, filter, fold, length, map}
use Rattle.std.specs.List.{All, range_with_len}
use Rattle.tc_code.specs.Code.{Code}
use Rattle.tc_code.specs.tc_limits.declared.limits.TheConstants.{MUTEXES}
use Rattle.path_walk.specs.Paths.{Paths}
use Rattle.path_walk.specs.declared.event.Region.{Region}
use Rattle.sym_terms.specs.declared.node.Node.{Node}
use Rattle.sym_exec.specs.Executed.{Symbolic}
use Rattle.order_formula.specs.declared.formula.Conjunct.{Conjunct}
use Rattle.order_events.specs.lawful_order.Events.{Placed, all_events}
use Rattle.cnf_core.specs.Clauses.{Formula}
use Rattle.bit_gates.specs.Folded.{IsLarger, Made}
use Rattle.bit_terms.specs.Laws.{IsIntNode}
use Rattle.bit_blast.specs.Drafts.{Draft, DraftIsWithin}
use Rattle.bit_blast.specs.Whole.{load_words}
use Rattle.read_write.specs.Accesses.{all_accesses}
use Rattle.mutex_regions.specs.Regions.{regions_of}
use Rattle.mutex_regions.specs.Variables.{guarded}
use Rattle.mutex_regions.specs.declared.variables.Spot.{Spot}
use Rattle.mutex_states.specs.InOrder.{in_order_made, is_of_mutex, used}
use Rattle.mutex_states.specs.Ranks.{begins_before, with_ranks}
use Rattle.mutex_states.specs.Sizes.{most_size, order_size, rank_size, turn_size}
use Rattle.mutex_states.specs.States as spec
use Rattle.mutex_states.specs.States.{Added}
use Rattle.mutex_states.specs.Steps.{State, Step, with_turns}
use Rattle.mutex_clauses.specs.shapes.Termed.{termed_steps}
use Rattle.mutex_clauses.specs.Loads.{LoadsAreBelow}
use Rattle.mutex_clauses.specs.declared.log.Log.{Log}
use Rattle.mutex_clauses.specs.declared.mutex.Mutex.{Mutex}
use Rattle.mutex_clauses.specs.declared.mutex.Steps.{Steps}

-- the states of all mutexes are added to a draft
pub record HasStates (code : Code) (paths : Paths) (symbolic : Symbolic) (nodes : List Node)
    (formula : List Conjunct) (d e : Draft) : Type 0 where
  pub is : (mutexes : ℕ) → mutexes ≡ MUTEXES
      → e ≡ (fold (spec.with_mutex code paths symbolic nodes formula)
      (record { draft = d; room = most_size }) (range_with_len 0 mutexes)).draft
  pub within : DraftIsWithin e

module _ (l : Log) where
  abbrev pub code_in : Code
  code_in = l.code.now

  abbrev pub paths_in : Paths
  paths_in = l.execution.now.paths

  abbrev pub symbolic_in : Symbolic
  symbolic_in = l.execution.now.symbolic

  abbrev pub nodes_in : List Node
  nodes_in = l.execution.now.terms

  abbrev pub formula_in : List Conjunct
  formula_in = l.literals.conjuncts.now

  -- a draft with the literals and words of the log, and these clauses
  abbrev pub draft_of : Formula → Draft
  draft_of f = record {
    layout = l.literals.layout.now;
    clauses = f;
    words = l.literals.words.now;
    roots = l.literals.roots.now;
  }

  -- the parts of a log belong together
  pub record IsLog : Type 0 where
    pub paths : l.literals.paths.now ≡ paths_in
    pub events : l.literals.events.now ≡ all_events paths_in
    pub accesses : l.accesses.now ≡ all_accesses symbolic_in
    pub loads : l.loads.now ≡ load_words l.literals.layout.now
    pub constants : All IsIntNode nodes_in
    pub below : LoadsAreBelow symbolic_in l.literals.layout.now.loads

  module _ (m : ℕ) where
    abbrev pub regions_in : List (Placed Region)
    regions_in = regions_of paths_in m

    abbrev pub spots_in : List Spot
    spots_in = spec.spots code_in paths_in symbolic_in nodes_in formula_in m

    abbrev pub steps_in : List Step
    steps_in = spec.steps code_in paths_in symbolic_in nodes_in formula_in m

    abbrev pub begins_in : List ℕ
    begins_in = spec.begins code_in paths_in symbolic_in nodes_in formula_in m

    abbrev pub size_in : ℕ
    size_in = spec.size code_in paths_in symbolic_in nodes_in formula_in m

    abbrev pub order_size_in : ℕ
    order_size_in =
        order_size (length (filter (λ c. is_of_mutex m c.group) formula_in)) (length regions_in)
        (length (used paths_in symbolic_in m))

    abbrev pub turns_size_in : ℕ
    turns_size_in =
        length steps_in * (rank_size (length steps_in) + turn_size (length spots_in) steps_in)

    -- the clauses of a mutex's states: that all is in order, the ranks, the states, the last loads
    abbrev pub ordered_in : Formula → Made
    ordered_in f = in_order_made paths_in symbolic_in formula_in (draft_of f) m f

    abbrev pub ranked_in : Formula → Formula
    ranked_in f = with_ranks (length begins_in) (begins_before l.literals.layout.now begins_in) f

    abbrev pub start_in : List (List ℤ)
    start_in = map (spec.start_word code_in paths_in symbolic_in nodes_in formula_in m) spots_in

    abbrev pub turned_in : (ordered : ℤ) → (start : ℕ) → State → State
    turned_in ordered start x =
        with_turns (length spots_in) steps_in (load_words l.literals.layout.now)
        l.literals.roots.now ordered start x

    abbrev pub last_in : (base : Formula) → (ordered : ℤ) → (words : List (List ℤ)) → Formula
        → Formula
    last_in base ordered words f =
        spec.with_last_loads code_in paths_in symbolic_in nodes_in formula_in m (draft_of base)
        ordered words f

    abbrev pub with_own : Formula → Draft
    with_own f =
        spec.with_states_of code_in paths_in symbolic_in nodes_in formula_in m (draft_of f)

  -- what adding the states of mutexes leads to
  abbrev pub with_next : Added → ℕ → Added
  with_next x m = spec.with_mutex code_in paths_in symbolic_in nodes_in formula_in x m

  abbrev pub added : Formula → (room : ℕ) → Added
  added f room = record { draft = draft_of f; room = room }

  abbrev pub with_first : Formula → (mutexes : ℕ) → Added
  with_first f mutexes = fold with_next (added f most_size) (range_with_len 0 mutexes)

  -- the states of all mutexes are added to `f`
  pub record AreAll (f g : Formula) : Type 0 where
    pub is : (mutexes : ℕ) → mutexes ≡ MUTEXES → draft_of g ≡ (with_first f mutexes).draft
    pub vars : f.vars ≤ g.vars

  -- the states of a mutex are added to `f`, if they have room, and so much room is left
  pub record IsNext (m : ℕ) (f : Formula) (room : ℕ) (g : Formula) (left : ℕ) : Type 0 where
    pub is : added g left ≡ with_next (added f room) m
    pub few : left ≤ room
    pub larger : IsLarger (room - left) f g

  -- regions, variables and cells are those of a mutex
  pub record IsOf (x : Mutex) : Type 0 where
    pub regions : x.regions.items ≡ regions_in x.number
    pub variables : x.variables.items ≡ guarded paths_in symbolic_in x.number
    pub spots : x.spots.items ≡ spots_in x.number

  -- steps and terms are those of its regions
  pub record AreSteps (x : Steps) : Type 0 where
    pub mutex : IsOf x.mutex.now
    pub steps : x.all.now ≡ steps_in x.mutex.now.number
    pub termed : x.termed.now ≡ termed_steps (length x.mutex.now.spots.items) x.all.now
