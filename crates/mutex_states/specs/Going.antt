-- The states of a mutex's cells in a world, by the ranks of its regions.
use Rattle.std.specs.Prelude.{◌≡◌, ℕ, zero, suc, ◌+◌, ◌==◌, true, not, List, ℤ, pos, Some, get_or, length, map, slice_get, Bool}
use Rattle.std.specs.List.{find, range_with_len}
use Rattle.std.specs.Option.{option_map_or}
use Rattle.std.specs.Ordering.{int_eq}
use Rattle.order_cells.specs.sym_exec.path_walk.tc_code.Code.{Code}
use Rattle.order_cells.specs.sym_exec.path_walk.Paths.{Paths}
use Rattle.order_cells.specs.sym_exec.path_walk.declared.event.Region.{Region}
use Rattle.circuit_sizes.specs.sym_terms.Values.{value_of}
use Rattle.circuit_sizes.specs.sym_terms.declared.node.Node.{Node}
use Rattle.order_cells.specs.sym_exec.Executed.{Course, Symbolic}
use Rattle.order_cells.specs.sym_exec.declared.symbolic.Test.{Test}
use Rattle.mutex_regions.specs.order_events.order_formula.declared.formula.Conjunct.{Conjunct}
use Rattle.mutex_regions.specs.order_events.order_formula.Worlds.{World}
use Rattle.mutex_regions.specs.order_events.lawful_order.Events.{Placed}
use Rattle.bit_order.specs.bit_ranks.Ranks.{ranks_of}
use Rattle.mutex_regions.specs.Laws.{begin, state}
use Rattle.mutex_regions.specs.Regions.{regions_of}
use Rattle.mutex_regions.specs.States.{value_first}
use Rattle.mutex_regions.specs.Variables.{guarded, spots_of}
use Rattle.mutex_states.specs.Ranks.{AreRanks}
use Rattle.mutex_states.specs.States.{first_test, step_of}
use Rattle.mutex_states.specs.Steps.{Goes}

module _ (code : Code) (paths : Paths) (symbolic : Symbolic) (nodes : List Node) (w : World)
    (m : ℕ) where
  -- the positions at which the regions begin, and their ranks
  abbrev pub positions_of : List ℕ
  positions_of = map (begin code paths symbolic nodes w m) (regions_of paths m)

  abbrev pub rank_of : ℕ → ℕ
  rank_of region = get_or (ranks_of positions_of) region 0

  -- the position at which the region of a rank begins, or `top` after all regions
  abbrev pub position_of : (top rank : ℕ) → ℕ
  position_of top rank =
      option_map_or (λ region. get_or positions_of region 0)
      (find (λ region. rank_of region == rank) (range_with_len 0 (length (regions_of paths m)))) top

  -- the state at the start, and before the region of each further rank begins
  abbrev pub states_of : (top rank : ℕ) → List ℤ
  states_of top zero =
      map (value_first code paths symbolic nodes w) (spots_of (guarded paths symbolic m))
  states_of top (suc k) =
      state code paths symbolic nodes w m (position_of top (suc k))

  -- each region goes from the state of its rank to the next one
  pub record RegionsGo (formula : List Conjunct) (top : ℕ) (holds : ℕ → Bool) : Type 0 where
    pub ranks : AreRanks (length (regions_of paths m)) rank_of
    pub goes : (region : ℕ) (r : Placed Region) → slice_get (regions_of paths m) region ≡ Some r
        → Goes (step_of code paths symbolic nodes formula m r) (states_of top (rank_of region))
        (states_of top (suc (rank_of region))) w.loads holds

-- the conjuncts of the paths' tests, where they hold, say how the tests come out
abbrev pub TestsHold : Code → Paths → Symbolic → List Node → List Conjunct → World → (ℕ → Bool)
    → Type 0
TestsHold code paths symbolic nodes formula w holds =
    (t k : ℕ) (c : Course) (x : Test) → slice_get symbolic.threads t ≡ Some c
    → slice_get c.tests k ≡ Some x
    → holds (first_test code paths symbolic nodes formula t + k) ≡ true
    → not (int_eq (value_of nodes w.loads x.term) (pos 0)) ≡ x.wanted
