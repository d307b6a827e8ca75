-- Literals as numbers: twice the variable, plus one if it is negated.
use Rattle.std.specs.Prelude.{ℕ, ◌+◌, ◌-◌, ◌*◌, ◌/◌, ◌%◌, if◌then◌else◌, ◌==◌}

-- the variable of a literal
abbrev pub variable_of : ℕ → ℕ
variable_of l = l / 2

-- the literal that is true if the variable is
abbrev pub positive_of : ℕ → ℕ
positive_of v = 2 * v

-- the other literal of the same variable
abbrev pub opposite_of : ℕ → ℕ
opposite_of l = if l % 2 == 0 then l + 1 else l - 1
