-- Parts of what matches say.
use Rattle.std.specs.Prelude.{ℕ, ◌&&◌, Option, Some, None, nat_le, if◌then◌else◌}
use Rattle.std.specs.Borrow.{Bor}
use Rattle.clap.specs.Words.{Text}

-- two and three names as texts
abbrev pub plain_two : Bor Text × Bor Text → Text × Text
plain_two p = (p.0.now, p.1.now)

abbrev pub plain_three : (Bor Text × Bor Text) × Bor Text → (Text × Text) × Text
plain_three p = (plain_two p.0, p.1.now)

-- the number, if it is in the range
abbrev pub within : (low high : ℕ) → ℕ → Option ℕ
within low high n = if nat_le low n && nat_le n high then Some n else None
