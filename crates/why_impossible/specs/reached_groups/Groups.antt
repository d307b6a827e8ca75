-- The groups of the conjuncts whose clauses a derivation reaches.
use Rattle.std.specs.Prelude.{◌≡◌, ℕ, ◌+◌, List, [], ◌∷◌, length, Some, slice_get}
use Rattle.std.specs.List.{Contains}
use Rattle.std.specs.List.Sorted.{IsStrictlySortedBy}
use Rattle.std.specs.Ordering.{nat_cmp, on}
use Rattle.std.specs.Cmp.Lexicographic.{slice_cmp}
use Rattle.std.specs.declared.cmp.Ordering.{Ordering}
use Rattle.order_formula.specs.declared.formula.Conjunct.{Conjunct}
use Rattle.order_formula.specs.declared.group.Group.{Group}
use Rattle.order_formula.specs.declared.group.Group.TheVariants.{Own, Child, Read, Mutex, Condition, Test, Stuck}
use Rattle.bit_blast.specs.Blasted.{Blasted, root_of}
use Rattle.refute_check.specs.declared.line.Line.{Line}
use Rattle.why_impossible.specs.refute_core.Reached.{IsReached}

-- the sort key of a group: its kind, then its thread or number, then its line
abbrev pub place_of : Group → List ℕ
place_of (Own t) = 0 ∷ t ∷ 0 ∷ []
place_of (Child t) = 1 ∷ t ∷ 0 ∷ []
place_of (Read t line) = 2 ∷ t ∷ line ∷ []
place_of (Mutex m) = 3 ∷ m ∷ 0 ∷ []
place_of (Condition c) = 4 ∷ c ∷ 0 ∷ []
place_of (Test t line) = 5 ∷ t ∷ line ∷ []
place_of (Stuck t) = 6 ∷ t ∷ 0 ∷ []

-- groups compare by their sort keys
abbrev pub group_cmp : Group → Group → Ordering
group_cmp = on place_of (slice_cmp nat_cmp)

module _ (formula : List Conjunct) (b : Blasted) (lines : List Line) where
  -- a derivation reaches the clause of a conjunct of a group
  pub record ReachesGroup (g : Group) : Type 0 where
    pub number : ℕ
    pub conjunct : Conjunct
    pub there : slice_get formula number ≡ Some conjunct
    pub of : conjunct.group ≡ g
    pub reached : IsReached (length b.clauses.clauses) lines (root_of b number + 1)

  -- the groups are exactly the reached ones, each once and in order
  pub record AreReachedGroups (groups : List Group) : Type 0 where
    pub rise : IsStrictlySortedBy group_cmp groups
    pub each : (g : Group) → Contains groups g → ReachesGroup g
    pub every : (g : Group) → ReachesGroup g → Contains groups g
