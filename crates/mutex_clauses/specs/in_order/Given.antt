-- Lists and parts that belong to a mutex of some paths, and to a draft.
use Rattle.std.specs.Prelude.{◌≡◌, ℕ, List, ℤ, filter, length}
use Rattle.std.specs.List.{flat_map}
use Rattle.path_walk.specs.Paths.{Paths}
use Rattle.path_walk.specs.declared.event.Region.{Region}
use Rattle.sym_exec.specs.Executed.{Symbolic}
use Rattle.sym_exec.specs.declared.symbolic.Access.{Access}
use Rattle.order_formula.specs.declared.formula.Conjunct.{Conjunct}
use Rattle.order_events.specs.lawful_order.Events.{Placed}
use Rattle.bit_order.specs.Layouts.{Layout}
use Rattle.bit_blast.specs.Drafts.{Draft}
use Rattle.read_write.specs.Accesses.{all_accesses}
use Rattle.mutex_regions.specs.Functions.{is_used}
use Rattle.mutex_regions.specs.Regions.{regions_of}
use Rattle.mutex_regions.specs.Variables.{guarded}
use Rattle.mutex_regions.specs.declared.variables.Variable.{Variable}
use Rattle.mutex_states.specs.InOrder.{is_of_mutex}
use Rattle.mutex_states.specs.Sizes.{order_size}

-- the regions of a mutex and the variables that it guards, with all accesses
pub record HasLists (paths : Paths) (symbolic : Symbolic) (m : ℕ) (own : List (Placed Region))
    (vs : List Variable) (all : List (Placed Access)) : Type 0 where
  pub regions : own ≡ regions_of paths m
  pub variables : vs ≡ guarded paths symbolic m
  pub accesses : all ≡ all_accesses symbolic

-- the layout of a draft, its words and its literals of conjuncts
pub record HasParts (d : Draft) (y : Layout) (of_terms : List (List ℤ))
    (of_conjuncts : List ℤ) : Type 0 where
  pub layout : d.layout ≡ y
  pub words : d.words ≡ of_terms
  pub roots : d.roots ≡ of_conjuncts

-- the accesses of regions to some variables
abbrev pub used_in : List Variable → List (Placed Access) → List (Placed Region)
    → List (Placed Access)
used_in vs accesses regions = flat_map (λ r. filter (is_used vs r) accesses) regions

-- the size of the literal that all is in order
abbrev pub size_of : List Conjunct → ℕ → List (Placed Region) → List Variable
    → List (Placed Access) → ℕ
size_of formula m regions vs accesses =
    order_size (length (filter (λ c. is_of_mutex m c.group) formula)) (length regions)
    (length (used_in vs accesses regions))
