-- The groups of conjuncts whose clauses are marked.
use Rattle.std.specs.Prelude.{ℕ, ◌+◌, Bool, false, if◌then◌else◌, List, [], ◌∷◌, get_or}
use Rattle.order_formula.specs.declared.formula.Conjunct.{Conjunct}
use Rattle.order_formula.specs.declared.group.Group.{Group}
use Rattle.bit_blast.specs.Blasted.{Blasted, root_of}

module _ (b : Blasted) (marks : List Bool) where
  -- the groups of the marked conjuncts, which are numbered from `number` on
  abbrev pub marked_from : ℕ → List Conjunct → List Group
  marked_from number [] = []
  marked_from number (c ∷ cs) =
      if get_or marks (root_of b number) false then c.group ∷ marked_from (number + 1) cs
      else marked_from (number + 1) cs
