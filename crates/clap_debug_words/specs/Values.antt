-- The values of options and numbers.
use Rattle.std.specs.Prelude.{ℕ, Bool, true, List, Option, Some, None, codes, is_some, option_map, bytes_eq, if◌then◌else◌}
use Rattle.std.specs.Str.Parse.{digits_value, without_leading_plus}
use Rattle.clap.specs.Words.{Row, Text, first_of}
use Rattle.clap.specs.ValueTests.{is_unsigned_in}
use Rattle.memory_models.specs.Models.{model_name}
use Rattle.memory_models.specs.declared.model.Model.{Model}
use Rattle.memory_models.specs.declared.model.Model.TheVariants.{Sc, Tso, Pso}
use Rattle.tc_limits.specs.declared.limits.TheConstants.{BUDGET, MOVES}
use Rattle.clap_debug_words.specs.declared.call.TheConstants.{WORKERS}

-- the greatest seed
abbrev pub last_seed : ℕ
last_seed = 18446744073709551615

-- the memory model with this name
abbrev pub model_named : Text → Option Model
model_named name =
    if bytes_eq name (model_name Sc) then Some Sc
    else if bytes_eq name (model_name Tso) then Some Tso
    else if bytes_eq name (model_name Pso) then Some Pso else None

-- the number that a text is, if it is one in the range
abbrev pub number_named : (low high : ℕ) → Text → Option ℕ
number_named low high text =
    if is_unsigned_in low high text then Some (digits_value 10 (without_leading_plus text))
    else None

-- the value of an option that may be left out, if what is written is a value
abbrev pub if_written : {T : Type 0} → (Text → Option T) → Option Text → Option (Option T)
if_written named None = Some None
if_written named (Some text) = option_map Some (named text)

-- the value of an option, as each command that has the option reads it
abbrev pub model_in : List Row → Option (Option Model)
model_in rows = if_written model_named (first_of (codes "model") rows)

abbrev pub seed_in : List Row → Option (Option ℕ)
seed_in rows = if_written (number_named 0 last_seed) (first_of (codes "seed") rows)

abbrev pub steps_in : List Row → Option (Option ℕ)
steps_in rows = if_written (number_named 1 MOVES) (first_of (codes "steps") rows)

abbrev pub budget_in : List Row → Option (Option ℕ)
budget_in rows = if_written (number_named 1 BUDGET) (first_of (codes "budget") rows)

-- whether the text is a value of the option or number with this name; a file has any name
abbrev pub is_value : Text → Text → Bool
is_value id text = if bytes_eq id (codes "model") then is_some (model_named text)
    else if bytes_eq id (codes "seed") then is_some (number_named 0 last_seed text)
    else if bytes_eq id (codes "steps") then is_some (number_named 1 MOVES text)
    else if bytes_eq id (codes "budget") then is_some (number_named 1 BUDGET text)
    else if bytes_eq id (codes "workers") then is_some (number_named 1 WORKERS text)
    else true
