-- Readings of bytes in memory.
use Rattle.std.specs.Prelude.{ℕ, List, drop, Option, option_map}
use Rattle.tc_io.specs.Outside.{Files, bytes_at}

-- an open reading: its name, and how many of the name's bytes it has given
pub record PlainReading : Type 0 where
  pub name : List ℕ
  pub given : ℕ

-- a reading that has given nothing yet
abbrev pub new_reading : List ℕ → PlainReading
new_reading name = record { name = name; given = 0 }

-- the name of the open reading, if any
abbrev pub name_of : Option PlainReading → Option (List ℕ)
name_of reading = option_map (λ r. r.name) reading

-- the bytes that the open reading has left, if one is open
abbrev pub rest_of : Files → Option PlainReading → Option (List ℕ)
rest_of files reading = option_map (λ r. drop r.given (bytes_at files r.name)) reading
