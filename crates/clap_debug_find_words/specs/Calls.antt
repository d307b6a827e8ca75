-- The call that words ask for.
use Rattle.std.specs.Prelude.{Bool, ◌||◌, List, Option, Some, None, codes, bytes_eq, if◌then◌else◌, option_map}
use Rattle.std.specs.Option.{option_map_or}
use Rattle.clap.specs.Words.{Row, Text, first_of, matches_of}
use Rattle.memory_models.specs.Models.{model_name}
use Rattle.memory_models.specs.declared.model.Model.{Model}
use Rattle.memory_models.specs.declared.model.Model.TheVariants.{Sc, Tso, Pso}
use Rattle.tc_limits.specs.declared.limits.TheConstants.{BUDGET}
use Rattle.log_walk.specs.declared.bounds.Kind.{Kind}
use Rattle.log_walk.specs.declared.bounds.Kind.TheVariants.{Failure, Deadlock}
use Rattle.find_failures.specs.declared.asked.Asked.{Asked}
use Rattle.find_command.specs.Calls.{Search, plain_search}
use Rattle.certificate_check.specs.Meanings.{Check, plain_check}
use Rattle.clap_debug_find_words.specs.CommandLine.{command_line, most_logs, most_outcomes, words_taken}
use Rattle.clap_debug_find_words.specs.Values.{has_value, is_given, number_of, text_of}
use Rattle.clap_debug_find_words.specs.declared.call.Call.{Call}
use Rattle.clap_debug_find_words.specs.declared.call.Call.TheVariants as call

-- a search of a program, or a check of a certificate, with its files and options
pub data Called : Type 0 where
  Searches : (search : Search) → Called
  Checks : (check : Check) → Called

-- a call as the value that clauses see
abbrev pub plain_call : Call → Called
plain_call (call.Search search) = Searches (plain_search search)
plain_call (call.Check check) = Checks (plain_check check)

-- the memory model with this name
abbrev pub model_named : Text → Option Model
model_named name =
    if bytes_eq name (model_name Sc) then Some Sc
    else if bytes_eq name (model_name Tso) then Some Tso
    else if bytes_eq name (model_name Pso) then Some Pso else None

-- the memory model that is asked for, `tso` if none is
abbrev pub model_in : List Row → Option Model
model_in rows = option_map_or model_named (first_of (codes "model") rows) (Some Tso)

-- how the runs end that are looked for
abbrev pub kind_in : List Row → Kind
kind_in rows = if is_given (codes "deadlock") rows then Deadlock else Failure

-- what is looked for, and how far the search goes
abbrev pub asked_in : List Row → Asked
asked_in rows = record {
  kind = kind_in rows;
  outcomes = number_of 0 most_outcomes 12 (codes "outcomes") rows;
  logs = number_of 1 most_logs 10000 (codes "logs") rows;
  budget = number_of 1 BUDGET 1000000 (codes "budget") rows;
}

-- a search under a memory model
abbrev pub search_in : Model → List Row → Search
search_in model rows = record {
  program = text_of (codes "program") rows;
  out = text_of (codes "out") rows;
  model = model;
  asked = asked_in rows;
}

-- the check of a certificate
abbrev pub check_in : List Row → Check
check_in rows =
    record { program = text_of (codes "program") rows; certificate = text_of (codes "out") rows }

-- whether some option says what is looked for
abbrev pub has_kind : List Row → Bool
has_kind rows = has_value (codes "model") rows || is_given (codes "deadlock") rows

-- whether some option says how far the search goes
abbrev pub has_bound : List Row → Bool
has_bound rows =
    has_value (codes "outcomes") rows || has_value (codes "logs") rows
    || has_value (codes "budget") rows

-- whether some option of a search is given
abbrev pub has_options : List Row → Bool
has_options rows = has_kind rows || has_bound rows

-- the search that matched words ask for, if they name a memory model
abbrev pub search_call : List Row → Option Called
search_call rows = option_map (λ model. Searches (search_in model rows)) (model_in rows)

-- the check that matched words ask for, if they have no option of a search
abbrev pub check_call : List Row → Option Called
check_call rows = if has_options rows then None else Some (Checks (check_in rows))

-- the call that matched words ask for
abbrev pub call_in : List Row → Option Called
call_in rows = if is_given (codes "check") rows then check_call rows else search_call rows

-- the call that the words ask for, if they are accepted
abbrev pub call_of : List Text → Option Called
call_of words = if words_taken words then call_in (matches_of command_line words) else None
