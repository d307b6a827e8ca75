-- Words in plain order: any first word, a command, its files or numbers, then any of its options.
use Rattle.std.specs.Prelude.{ℕ, ◌==◌, ◌&&◌, not, Bool, true, false, List, [], ◌∷◌, ◌++◌, Option, Some, None, codes, nat_le, option_map}
use Rattle.std.specs.Option.{option_map_or}
use Rattle.std.specs.Fmt.{decimal}
use Rattle.clap.specs.Words.{Text}
use Rattle.memory_models.specs.Models.{model_name}
use Rattle.memory_models.specs.declared.model.Model.{Model}
use Rattle.tc_limits.specs.declared.limits.TheConstants.{BUDGET, MOVES}
use Rattle.clap_debug_words.specs.declared.call.TheConstants.{WORKERS}
use Rattle.clap_debug_words.specs.Values.{last_seed}
use Rattle.clap_debug_words.specs.Calls.{Called, Lists, Replays, Records, Migrates, Solves, Checks, Workloads, Exports, Imports, Explains}

-- the words of an option and its value, if it is written
abbrev pub option_words : Text → Option Text → List Text
option_words name None = []
option_words name (Some value) = name ∷ value ∷ []

abbrev pub model_words : Option Model → List Text
model_words model = option_words (codes "--model") (option_map model_name model)

abbrev pub number_words : Text → Option ℕ → List Text
number_words name number = option_words name (option_map decimal number)

abbrev pub words_of : Text → Called → List Text
words_of first (Lists program) = first ∷ codes "list" ∷ program ∷ []
words_of first (Replays program log schedule) =
    first ∷ codes "replay" ∷ program ∷ log ∷ schedule ∷ []
words_of first (Records program log model seed steps) =
    first ∷ codes "record" ∷ program ∷ log
    ∷ (model_words model ++ (number_words (codes "--seed") seed ++ number_words (codes "--steps") steps))
words_of first (Migrates program log out) = first ∷ codes "migrate" ∷ program ∷ log ∷ out ∷ []
words_of first (Solves program log out model budget least) =
    first ∷ codes "solve" ∷ program ∷ log ∷ out
    ∷ (model_words model ++ (number_words (codes "--budget") budget ++ option_words (codes "--least") least))
words_of first (Checks program log refutation) =
    first ∷ codes "check" ∷ program ∷ log ∷ refutation ∷ []
words_of first (Workloads workers seed) =
    first ∷ codes "workload" ∷ decimal workers ∷ decimal seed ∷ []
words_of first (Exports program log out model) =
    first ∷ codes "cnf" ∷ program ∷ log ∷ out ∷ model_words model
words_of first (Imports program log answer out model) =
    first ∷ codes "import" ∷ program ∷ log ∷ answer ∷ out ∷ model_words model
words_of first (Explains program log refutation) =
    first ∷ codes "why" ∷ program ∷ log ∷ refutation ∷ []

-- whether a text can name a file: it isn't empty and doesn't begin with `-`
abbrev pub is_name : Text → Bool
is_name [] = false
is_name (b ∷ _) = not (b == 45)

abbrev pub is_between : (low high : ℕ) → ℕ → Bool
is_between low high n = nat_le low n && nat_le n high

-- if it is written, it is so
abbrev pub holds_if : {T : Type 0} → (T → Bool) → Option T → Bool
holds_if holds written = option_map_or holds written true

-- the names can name files, and the numbers are in their ranges
abbrev pub is_plain : Called → Bool
is_plain (Lists program) = is_name program
is_plain (Replays program log schedule) = is_name program && (is_name log && is_name schedule)
is_plain (Records program log model seed steps) = (is_name program && is_name log)
    && (holds_if (is_between 0 last_seed) seed && holds_if (is_between 1 MOVES) steps)
is_plain (Migrates program log out) = is_name program && (is_name log && is_name out)
is_plain (Solves program log out model budget least) =
    (is_name program && (is_name log && is_name out))
    && (holds_if (is_between 1 BUDGET) budget && holds_if is_name least)
is_plain (Checks program log refutation) = is_name program && (is_name log && is_name refutation)
is_plain (Workloads workers seed) = is_between 1 WORKERS workers && is_between 0 last_seed seed
is_plain (Exports program log out model) = is_name program && (is_name log && is_name out)
is_plain (Imports program log answer out model) =
    is_name program && (is_name log && (is_name answer && is_name out))
is_plain (Explains program log refutation) = is_name program && (is_name log && is_name refutation)
