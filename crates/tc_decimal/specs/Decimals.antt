-- Decimal numbers without leading zeros: `0` alone, or digits that don't begin with `0`.
use Rattle.std.specs.Prelude.{ℕ, Bool, false, ◌&&◌, not, nat_le, nat_lt, ◌==◌, if◌then◌else◌, List, ◌∷◌, length, take, drop, Option, Some, None}
use Rattle.std.specs.List.{list_all, prefix_len}
use Rattle.std.specs.Option.{option_and_then}
use Rattle.std.specs.Str.Parse.{digits_value}

abbrev pub is_digit : ℕ → Bool
is_digit b = nat_le 48 b && nat_le b 57

-- whether the bytes begin with `0` and go on
abbrev pub leads_with_zero : List ℕ → Bool
leads_with_zero (b ∷ _ ∷ _) = b == 48
leads_with_zero _ = false

-- the number that these bytes write, if it is at most `last`
abbrev pub number_of : (last : ℕ) → List ℕ → Option ℕ
number_of last word =
    if list_all is_digit word && not (leads_with_zero word) && nat_lt 0 (length word)
    && nat_le (digits_value 10 word) last
    then Some (digits_value 10 word)
    else None

-- the number that the digits at the front write, from `low` to `last`, and the bytes after them
unfoldable pub number_at : (low last : ℕ) → List ℕ → Option (ℕ × List ℕ)
number_at low last bytes =
    option_and_then
    (λ n. if nat_le low n then Some (n, drop (prefix_len is_digit bytes) bytes) else None)
    (number_of last (take (prefix_len is_digit bytes) bytes))
