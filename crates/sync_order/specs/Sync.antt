-- Conjuncts for synchronisation: children, mutexes, conditions and deadlocks.
use Rattle.std.specs.Prelude.{List, ◌++◌, Bool, true, false}
use Rattle.path_walk.specs.Paths.{Paths}
use Rattle.order_formula.specs.declared.formula.Conjunct.{Conjunct}
use Rattle.order_formula.specs.declared.group.Group.{Group}
use Rattle.order_formula.specs.declared.group.Group.TheVariants.{Own, Child, Read, Mutex, Condition, Test, Stuck}
use Rattle.condition_order.specs.Conditions.{condition_formula}
use Rattle.sync_order.specs.Children.{children_formula}
use Rattle.sync_order.specs.Mutexes.{mutexes_formula}
use Rattle.sync_order.specs.Stuck.{stuck_formula}

-- whether a group is about synchronisation
abbrev pub is_sync : Group → Bool
is_sync (Child t) = true
is_sync (Mutex m) = true
is_sync (Condition c) = true
is_sync (Stuck t) = true
is_sync (Own t) = false
is_sync (Read t line) = false
is_sync (Test t line) = false

abbrev pub sync_formula : Paths → List Conjunct
sync_formula paths =
    children_formula paths ++ mutexes_formula paths ++ condition_formula paths
    ++ stuck_formula paths
