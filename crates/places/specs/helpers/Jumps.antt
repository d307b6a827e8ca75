-- The last jumps to the instructions of a function.
use Rattle.std.specs.Prelude.{◌≡◌, ℕ, ◌+◌, Bool, Some, slice_get, false, List, map, length, nat_le, Option, None, slice_index_or}
use Rattle.std.specs.List.{filter, range_with_len}
use Rattle.std.specs.Option.{option_map_or}
use Rattle.tc_code.specs.declared.instr.Instr.{Instr}
use Rattle.places.specs.Places.{Place, is_around}

-- whether a loop is around an instruction is determined by the last jump to its first one
abbrev pub Tells : List Instr → ℕ → Option ℕ → Type 0
Tells is first last = (at : ℕ) → is_around is at first ≡ option_map_or (λ l. nat_le at l) last false

-- for each instruction, the last one that may jump to it
pub record AreLastJumps (is : List Instr) (lasts : List (Option ℕ)) : Type 0 where
  pub count : length lasts ≡ length is
  pub each : (first : ℕ) (last : Option ℕ) → slice_get lasts first ≡ Some last → Tells is first last

-- whether the loop at `first` is around an instruction, and where the loops around it begin
abbrev pub is_around_by : List (Option ℕ) → (at first : ℕ) → Bool
is_around_by lasts at first =
    option_map_or (λ l. nat_le at l) (slice_index_or lasts first None) false

abbrev pub around_by : List (Option ℕ) → ℕ → List ℕ
around_by lasts at = filter (is_around_by lasts at) (range_with_len 0 (at + 1))

-- the place at an instruction, by the last jumps
abbrev pub place_by : List (Option ℕ) → ℕ → (ℕ → ℕ) → Place
place_by lasts at number = record {
  instruction = at;
  rounds = map (λ a. record { first = a; number = number a }) (around_by lasts at);
}
