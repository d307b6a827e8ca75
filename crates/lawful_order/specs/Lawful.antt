-- Lawful orders of paths under a memory model: the orders of the runs that follow the paths.
use Rattle.std.specs.Prelude.{◌≡◌, ◌⊎◌, ℕ, Bool, List, length, Some}
use Rattle.sym_exec.specs.tc_code.Code.{Code}
use Rattle.sym_exec.specs.path_walk.Paths.{Paths}
use Rattle.sym_exec.specs.path_walk.declared.event.Sleep.{Sleep}
use Rattle.store_buffers.specs.Pending.{Binding}
use Rattle.order_formula.specs.sym_terms.declared.node.Node.{Node}
use Rattle.sym_exec.specs.Executed.{Symbolic}
use Rattle.order_formula.specs.Worlds.{World}
use Rattle.order_formula.specs.declared.group.Group.{Group}
use Rattle.order_formula.specs.declared.group.Group.TheVariants.{Own, Child, Read, Mutex, Condition, Test, Stuck}
use Rattle.lawful_order.specs.Events.{Placed, all_events, all_sleeps, ender_of}
use Rattle.lawful_order.specs.Memory.{OwnRule}
use Rattle.lawful_order.specs.Reads.{ReadRule}
use Rattle.lawful_order.specs.Children.{ChildRule}
use Rattle.lawful_order.specs.Mutexes.{MutexRule}
use Rattle.lawful_order.specs.Conditions.{ConditionRule, IsSleep, IsSignal, IsBroadcast}
use Rattle.lawful_order.specs.Tests.{TestRule}
use Rattle.lawful_order.specs.Stuck.{StuckRule}

-- a world of the paths' items; a sleep ends by a signal or a broadcast of its condition
pub record IsWorldOf (paths : Paths) (symbolic : Symbolic) (w : World) : Type 0 where
  pub events : length w.positions ≡ length (all_events paths)
  pub loads : length w.loads ≡ symbolic.loads
  pub sleeps : length w.enders ≡ length (all_sleeps paths)
  pub enders : (s g c : ℕ) (x : Placed Sleep) → IsSleep paths w s x c → ender_of w s ≡ Some g
      → IsSignal paths w g c ⊎ IsBroadcast paths w g c

module _ (buffered : Bool) (bound : Binding) (code : Code) (paths : Paths) (symbolic : Symbolic)
    (nodes : List Node) (w : World) where
  -- the rule of a group
  abbrev pub MeetsRule : Group → Type 0
  MeetsRule (Own t) = OwnRule buffered bound paths symbolic nodes w t
  MeetsRule (Child t) = ChildRule paths w t
  MeetsRule (Read t line) = ReadRule code paths symbolic nodes w t line
  MeetsRule (Mutex m) = MutexRule paths w m
  MeetsRule (Condition c) = ConditionRule paths w c
  MeetsRule (Test t line) = TestRule symbolic nodes w t line
  MeetsRule (Stuck t) = StuckRule paths w t

  -- an order is lawful if it meets the rule of every group
  pub record IsLawful : Type 0 where
    pub meets : (g : Group) → MeetsRule g
