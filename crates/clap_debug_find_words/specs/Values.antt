-- The values that matched words give.
use Rattle.std.specs.Prelude.{ℕ, ◌&&◌, Bool, false, List, [], Option, Some, None, codes, bytes_eq, is_some, nat_le, unwrap_or, if◌then◌else◌, option_map}
use Rattle.std.specs.Option.{option_map_or}
use Rattle.std.specs.Borrow.{Bor}
use Rattle.std.specs.Str.Parse.{digits_value, without_leading_plus}
use Rattle.clap.specs.Words.{Row, Text, first_of, one_of}
use Rattle.clap.specs.ValueTests.{is_unsigned_in}

-- a text, if there is one
abbrev pub plain_text : Option (Bor Text) → Option Text
plain_text text = option_map (λ s. s.now) text

-- the value of a positional or an option
abbrev pub text_of : Text → List Row → Text
text_of id rows = unwrap_or (first_of id rows) []

-- whether the value of a flag says that the flag is given
abbrev pub is_true : Option Text → Bool
is_true word = option_map_or (λ t. bytes_eq t (codes "true")) word false

-- whether a flag is given
abbrev pub is_given : Text → List Row → Bool
is_given id rows = is_true (first_of id rows)

-- whether an option has a value
abbrev pub has_value : Text → List Row → Bool
has_value id rows = is_some (first_of id rows)

-- the number that a text is, if it is one in the range, else the default
abbrev pub number_in : (low high default : ℕ) → Text → ℕ
number_in low high default text =
    if is_unsigned_in low high text then digits_value 10 (without_leading_plus text) else default

-- the number of an option
abbrev pub number_of : (low high default : ℕ) → Text → List Row → ℕ
number_of low high default id rows =
    option_map_or (number_in low high default) (one_of id rows) default

-- the number, if there is one in the range, else the default
abbrev pub within : (low high default : ℕ) → Option ℕ → ℕ
within low high default None = default
within low high default (Some n) = if nat_le low n && nat_le n high then n else default
