-- Conjuncts for mutexes: of two regions of the same mutex, one ends before the other begins.
use Rattle.std.specs.Prelude.{ℕ, List, [], ◌∷◌, ◌++◌, map, Bool, not, ◌&&◌, ◌==◌, option_to_list, if◌then◌else◌}
use Rattle.std.specs.List.{flat_map}
use Rattle.path_walk.specs.Paths.{Paths}
use Rattle.path_walk.specs.declared.event.Event.{Event}
use Rattle.path_walk.specs.declared.event.Region.{Region}
use Rattle.order_formula.specs.declared.literal.Literal.{Literal}
use Rattle.order_formula.specs.declared.formula.Conjunct.{Conjunct}
use Rattle.order_formula.specs.declared.group.Group.TheVariants.{Mutex}
use Rattle.order_events.specs.lawful_order.Events.{Placed, all_from, all_events}
use Rattle.order_events.specs.Parts.{comes_before, one_of}

-- the results of f for every two elements, in the order of the list, concatenated
abbrev pub of_pairs : {A X : Type 0} → (A → A → List X) → List A → List X
of_pairs f [] = []
of_pairs f (x ∷ xs) = flat_map (f x) xs ++ of_pairs f xs

-- whether two regions are distinct and of the same mutex
abbrev pub exclude : Placed Region → Placed Region → Bool
exclude r s = r.it.mutex == s.it.mutex && not (r.thread == s.thread && r.it.«from» == s.it.«from»)

module _ (events : List (Placed Event)) where
  -- the step k of the first region's thread comes before the second region begins
  abbrev pub release_literal : Placed Region → Placed Region → ℕ → Literal
  release_literal r s k = comes_before events r.thread k s.thread s.it.«from»

  -- the first region ends before the second begins; no literal if the first has no end
  abbrev pub left_before : Placed Region → Placed Region → List Literal
  left_before r s = map (release_literal r s) (option_to_list r.it.to)

  -- one of two regions ends before the other begins
  abbrev pub excludes : Placed Region → Placed Region → Conjunct
  excludes r s = one_of (Mutex r.it.mutex) (left_before r s ++ left_before s r)

  abbrev pub exclusive : Placed Region → Placed Region → List Conjunct
  exclusive r s = if exclude r s then excludes r s ∷ [] else []

-- all regions, one thread after another
abbrev pub all_regions : Paths → List (Placed Region)
all_regions paths = all_from (λ q. q.regions) 0 paths.threads

abbrev pub mutexes_formula : Paths → List Conjunct
mutexes_formula paths = of_pairs (exclusive (all_events paths)) (all_regions paths)
