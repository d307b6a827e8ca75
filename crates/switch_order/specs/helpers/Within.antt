-- Literals over the first variables of a formula.
use Rattle.std.specs.Prelude.{ℕ, ◌≤◌, List, [], ◌∷◌, ℤ, suc, neg_ℤ}
use Rattle.cnf_core.specs.Clauses.{var_of}
use Rattle.bit_order.specs.Clauses.{folded_clause}
use Rattle.bit_order.specs.Comparators.{before_literal}
use Rattle.bit_order.specs.Layouts.{Layout}
use Rattle.switch_order.specs.Levels.{level_literal}

-- the literals that compare two events are over the first `vars` variables
abbrev pub AreBeforesWithin : ℕ → Layout → Type 0
AreBeforesWithin vars y = (first second : ℕ) → var_of (before_literal y first second) ≤ vars

-- the clause of a rise, from the literals that `first` is before `second` and that `second` counts
abbrev pub rise_of : (before counts : ℤ) → (start most first second least : ℕ) → List (List ℤ)
rise_of before counts start most first second least =
    folded_clause
    (neg_ℤ before ∷ neg_ℤ counts ∷ neg_ℤ (level_literal start most first least)
    ∷ level_literal start most second (suc least) ∷ [])
