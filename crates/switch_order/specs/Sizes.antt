-- An upper bound on the variables, and on the clauses, of levels.
use Rattle.std.specs.Prelude.{ℕ, ◌+◌, ◌*◌}

abbrev pub size_of : (events most : ℕ) → ℕ
size_of events most = events * events * (most + 1) + events * most
