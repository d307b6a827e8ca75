-- The order of the paths of a thread.
use Rattle.std.specs.Prelude.{ℕ, Bool, true, false, nat_le, List, [], ◌∷◌}
use Rattle.tc_code.specs.tc_base.Paths.{Path}

-- whether outcomes and steps are those of a position or come after it: false comes before true,
-- fewer outcomes before more, and with equal outcomes fewer steps before more
abbrev pub is_from : List Bool → ℕ → List Bool → ℕ → Bool
is_from [] least [] steps = nat_le least steps
is_from [] least (_ ∷ _) steps = true
is_from (_ ∷ _) least [] steps = false
is_from (false ∷ at) least (true ∷ outcomes) steps = true
is_from (true ∷ at) least (false ∷ outcomes) steps = false
is_from (_ ∷ at) least (_ ∷ outcomes) steps = is_from at least outcomes steps

-- whether a path is this one or comes after it
abbrev pub comes_from : Path → Path → Bool
comes_from p q = is_from p.outcomes p.steps q.outcomes q.steps
