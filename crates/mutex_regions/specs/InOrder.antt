-- That all is in order in a world: the rules on which the states of a mutex's cells rest.
use Rattle.std.specs.Prelude.{◌≡◌, ◌⊎◌, ℕ, ◌<◌, ◌&&◌, ◌||◌, Bool, true, not, List, Some, is_some, is_none, IsSome, pos, int_le, int_lt}
use Rattle.std.specs.List.{Contains}
use Rattle.tc_code.specs.Code.{Code}
use Rattle.path_walk.specs.Paths.{Paths}
use Rattle.path_walk.specs.declared.event.Region.{Region}
use Rattle.sym_terms.specs.Values.{value_of}
use Rattle.sym_terms.specs.declared.node.Node.{Node}
use Rattle.sym_exec.specs.Executed.{Symbolic}
use Rattle.sym_exec.specs.declared.symbolic.Access.{Access}
use Rattle.sym_exec.specs.tc_code.declared.cell.Cell.TheVariants.{Element}
use Rattle.order_formula.specs.Worlds.{World}
use Rattle.order_events.specs.lawful_order.Events.{Placed, IsBefore}
use Rattle.order_events.specs.lawful_order.Mutexes.{MutexRule}
use Rattle.order_events.specs.lawful_order.Reads.{TakesFirst, TakesFrom}
use Rattle.read_write.specs.Accesses.{all_accesses}
use Rattle.mutex_regions.specs.Functions.{is_used}
use Rattle.mutex_regions.specs.Regions.{regions_of}
use Rattle.mutex_regions.specs.Variables.{guarded, same_variable, variable_of}

-- the order of two accesses of a region matters: one of them writes to their variable, and the
-- second isn't a load after a store, which takes what is stored in either order
abbrev pub must_keep : (a b : Access) → Bool
must_keep a b =
    same_variable (variable_of a.cell) (variable_of b.cell)
    && ((is_some a.writes || is_some b.writes) && not (is_none a.takes && is_none b.writes))

module _ (code : Code) (paths : Paths) (symbolic : Symbolic) (nodes : List Node) (w : World)
    (m : ℕ) where
  -- an access of the region r to one of the mutex's variables
  pub record Uses (r : Placed Region) (a : Placed Access) : Type 0 where
    pub region : Contains (regions_of paths m) r
    pub access : Contains (all_accesses symbolic) a
    pub used : is_used (guarded paths symbolic m) r a ≡ true

  -- a load takes the value that it must
  abbrev pub IsRight : Placed Access → Type 0
  IsRight a =
      ((u : ℕ) × (b : Access) × TakesFrom code paths symbolic nodes w a.thread a.it u b)
      ⊎ TakesFirst code paths symbolic nodes w a.thread a.it

  pub record IsInOrder : Type 0 where
    -- regions don't overlap, each begins before it ends, and a thread's go in the order of its path
    pub apart : MutexRule paths w m
    pub forward : (r : Placed Region) (k : ℕ) → Contains (regions_of paths m) r → r.it.to ≡ Some k
        → IsBefore paths w r.thread r.it.«from» r.thread k
    pub rise : (r s : Placed Region) → Contains (regions_of paths m) r → Contains (regions_of paths m) s
        → r.thread ≡ s.thread → r.it.«from» < s.it.«from»
        → IsBefore paths w r.thread r.it.«from» s.thread s.it.«from»
    -- accesses lie in their regions, and those whose order matters are in order
    pub begun : (r : Placed Region) (a : Placed Access) → Uses r a
        → IsBefore paths w r.thread r.it.«from» a.thread a.it.step
    pub ended : (r : Placed Region) (a : Placed Access) (k : ℕ) → Uses r a → r.it.to ≡ Some k
        → IsBefore paths w a.thread a.it.step r.thread k
    pub kept : (r : Placed Region) (a b : Placed Access) → Uses r a → Uses r b → a.it.step < b.it.step
        → must_keep a.it b.it ≡ true → IsBefore paths w a.thread a.it.step b.thread b.it.step
    -- loads are right, and indexes are in range
    pub taken : (r : Placed Region) (a : Placed Access) → Uses r a → IsSome a.it.takes → IsRight a
    pub indexed : (r : Placed Region) (a : Placed Access) (f n i : ℕ) → Uses r a → a.it.cell ≡ Element f n i
        → (int_le (pos 0) (value_of nodes w.loads i) ≡ true)
        × (int_lt (value_of nodes w.loads i) (pos n) ≡ true)
