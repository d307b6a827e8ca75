-- What regions do in a world in which all is in order: each is one step from state to state.
use Rattle.std.specs.Prelude.{◌≡◌, ℕ, ℤ, pos, ◌<◌, ◌≤◌, true, List, Some, None, get_or, slice_get, map}
use Rattle.std.specs.List.{Contains}
use Rattle.tc_code.specs.Code.{Code}
use Rattle.tc_code.specs.Expr as expr
use Rattle.tc_code.specs.Expr.{Expr}
use Rattle.path_walk.specs.Paths.{Paths}
use Rattle.path_walk.specs.declared.event.Region.{Region}
use Rattle.sym_terms.specs.Values.{value_of}
use Rattle.sym_terms.specs.declared.node.Node.{Node}
use Rattle.sym_exec.specs.Executed.{Symbolic}
use Rattle.sym_exec.specs.declared.symbolic.Access.{Access}
use Rattle.order_formula.specs.Worlds.{World, position}
use Rattle.order_events.specs.lawful_order.Events.{Placed, IsBefore, place_of}
use Rattle.read_write.specs.Accesses.{all_accesses}
use Rattle.mutex_regions.specs.Functions.{Doing, function_of, term_expr}
use Rattle.mutex_regions.specs.declared.functions.Holding.{Holding}
use Rattle.mutex_regions.specs.declared.functions.Loaded.{Loaded}
use Rattle.mutex_regions.specs.InOrder.{IsRight}
use Rattle.mutex_regions.specs.Regions.{regions_of}
use Rattle.mutex_regions.specs.States.{is_to, state_before, value_first}
use Rattle.mutex_regions.specs.Variables.{guarded, spots_of}
use Rattle.mutex_regions.specs.declared.variables.Spot.{Spot}

module _ (code : Code) (paths : Paths) (symbolic : Symbolic) (nodes : List Node) (w : World)
    (m : ℕ) where
  -- the position of a region's begin
  abbrev pub begin : Placed Region → ℕ
  begin r = place_of paths w r.thread r.it.«from»

  -- the state before a position, and what a region does
  abbrev pub state : ℕ → List ℤ
  state p = state_before code paths symbolic nodes w (guarded paths symbolic m) p

  abbrev pub does : Placed Region → Doing
  does r = function_of nodes (guarded paths symbolic m) (all_accesses symbolic) r

  -- before the position p, r is the last region that begins, and p isn't inside it
  pub record IsLastBefore (r : Placed Region) (p : ℕ) : Type 0 where
    pub there : Contains (regions_of paths m) r
    pub begun : begin r < p
    pub ended : (k : ℕ) → r.it.to ≡ Some k → place_of paths w r.thread k < p
    pub whole : r.it.to ≡ None → (e : ℕ) → position w e < p
    pub last : (s : Placed Region) → Contains (regions_of paths m) s → begin s < p → begin s ≤ begin r

  -- a right load that comes after the ends of all regions
  pub record IsLastLoad (a : Placed Access) : Type 0 where
    pub there : Contains (all_accesses symbolic) a
    pub after : (r : Placed Region) → Contains (regions_of paths m) r
        → (k : ℕ) × (r.it.to ≡ Some k) × IsBefore paths w r.thread k a.thread a.it.step
    pub right : IsRight code paths symbolic nodes w m a

  pub record RegionsAct : Type 0 where
    -- before all regions the cells hold their values at the start
    pub first : (p : ℕ) → ((s : Placed Region) → Contains (regions_of paths m) s → p ≤ begin s)
        → state p ≡ map (value_first code paths symbolic nodes w) (spots_of (guarded paths symbolic m))
    -- a region's loads, and the terms over them, have the values of their expressions
    pub loads : (r : Placed Region) (l : Loaded) (e : Expr) → Contains (regions_of paths m) r
        → Contains (does r).loads l → l.value ≡ Some e
        → get_or w.loads l.load (pos 0) ≡ expr.value_of e (state (begin r))
    pub terms : (r : Placed Region) (levels term : ℕ) (e : Expr) → Contains (regions_of paths m) r
        → term_expr nodes (does r).loads levels term ≡ Some e
        → value_of nodes w.loads term ≡ expr.value_of e (state (begin r))
    -- after a region each cell holds the value of its expression over the state before it
    pub cells : (r : Placed Region) (p k : ℕ) (x : Holding) (e : Expr) → IsLastBefore r p
        → slice_get (does r).cells k ≡ Some x → x.value ≡ Some e
        → slice_get (state p) k ≡ Some (expr.value_of e (state (begin r)))
    -- a right load after all regions takes what the last of them leaves
    pub outside : (a : Placed Access) (l k p : ℕ) (s : Spot) → IsLastLoad a → a.it.takes ≡ Some l
        → slice_get (spots_of (guarded paths symbolic m)) k ≡ Some s
        → is_to code paths symbolic nodes w s a.it.cell ≡ true → ((e : ℕ) → position w e < p)
        → slice_get (state p) k ≡ Some (get_or w.loads l (pos 0))
