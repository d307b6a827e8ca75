-- How a clause is found by its number.
use Rattle.std.specs.Prelude.{ℕ, ◌+◌, ◌*◌, ◌/◌, ◌%◌}

-- a 32-bit number after one more of its bytes, the lowest byte first
abbrev pub next_number : ℕ → ℕ → ℕ
next_number n b = n / 256 + b * 16777216

-- the hash of the row that a number is in
abbrev pub product_of : ℕ → ℕ
product_of n = n / 64 * 2654435761 % 4294967296

-- the place of a number: the row's hash with its halves swapped, and the same place in the row
abbrev pub place_of_number : ℕ → ℕ
place_of_number n = (product_of n / 65536 + product_of n % 65536 * 65536) / 64 * 64 + n % 64
