-- What it means for a derivation to reach groups.
use Rattle.std.specs.Prelude.{◌≡◌, ℕ, List, Some, None, get_or, length}
use Rattle.std.specs.List.{All, Contains}
use Rattle.order_formula.specs.int_ops.Arith.{IsInt}
use Rattle.order_formula.specs.sym_terms.declared.node.Node.{Node}
use Rattle.order_formula.specs.declared.formula.Conjunct.{Conjunct}
use Rattle.order_formula.specs.declared.group.Group.{Group}
use Rattle.order_formula.specs.Groups.{HoldsIn}
use Rattle.order_formula.specs.Orders.{Order}
use Rattle.order_formula.specs.Worlds.{IsWorld, World}
use Rattle.bit_blast.specs.Blasted.{Blasted, IsPosed, RootsTell}
use Rattle.refute_check.specs.Refutations.{IsClosed}
use Rattle.refute_check.specs.declared.line.Line.{Line}
use Rattle.why_impossible.specs.reached_groups.Groups.{AreReachedGroups}

-- a world of an order's events and sleeps, with `count` loads of ints and enders from the choices
pub record IsWorldIn (o : Order) (count : ℕ) (w : World) : Type 0 where
  pub is : IsWorld w
  pub events : length w.positions ≡ o.events
  pub loads : length w.loads ≡ count
  pub ints : All IsInt w.loads
  pub sleeps : length w.enders ≡ o.sleeps
  pub chosen : (sleep by : ℕ) → get_or w.enders sleep None ≡ Some by
      → Contains o.choices (record { sleep = sleep; by = by })

-- no world makes the conjuncts of all groups true that a closed derivation reaches, whatever the
-- clauses beside the roots, if in every world they hold for some values
abbrev pub GroupsBind : Type 0
GroupsBind =
    (nodes : List Node) (formula : List Conjunct) (o : Order) (loads : ℕ) (b : Blasted)
    (lines : List Line) (groups : List Group)
    → IsPosed nodes formula o
    → RootsTell nodes formula (record { order = o; loads = loads }) b
    → b.conjuncts ≡ length formula
    → IsClosed b.clauses lines
    → AreReachedGroups formula b lines groups
    → (w : World) → IsWorldIn o loads w → All (HoldsIn nodes w formula) groups → ⊥
