-- Lines with numbers.
use Rattle.std.specs.Prelude.{ℕ, List, ◌++◌, codes}
use Rattle.std.specs.Fmt.{decimal}

-- the search for fewer switches was given up after this many conflicts
abbrev pub spent_at_line : (conflicts count : ℕ) → List ℕ
spent_at_line conflicts count =
    codes "spent after "
    ++ (decimal conflicts ++ (codes " conflicts, " ++ (decimal count ++ codes " switches\n")))
