-- The call that words ask for.
use Rattle.std.specs.Prelude.{ℕ, Bool, List, Option, Some, None, codes, bytes_eq, is_some, if◌then◌else◌, option_map, option_and_then}
use Rattle.std.specs.Option.{option_zip}
use Rattle.clap.specs.Words.{Row, Text, fault_of, first_of, subcommand_of}
use Rattle.clap.specs.Walk.{is_empty}
use Rattle.memory_models.specs.declared.model.Model.{Model}
use Rattle.clap_debug_words.specs.CommandLine.{command_line}
use Rattle.clap_debug_words.specs.Values.{budget_in, last_seed, model_in, number_named, seed_in, steps_in}
use Rattle.clap_debug_words.specs.declared.call.Call.{Call}
use Rattle.clap_debug_words.specs.declared.call.TheConstants.{WORKERS}
use Rattle.clap_debug_words.specs.declared.call.Call.TheVariants as call

-- a command, with the names of its files, and the values of its options, if they are written
pub data Called : Type 0 where
  Lists : (program : Text) → Called
  Replays : (program log schedule : Text) → Called
  Records : (program log : Text) (model : Option Model) (seed steps : Option ℕ) → Called
  Migrates : (program log out : Text) → Called
  Solves : (program log out : Text) (model : Option Model) (budget : Option ℕ)
      (least : Option Text) → Called
  Checks : (program log refutation : Text) → Called
  Workloads : (workers seed : ℕ) → Called
  Exports : (program log out : Text) (model : Option Model) → Called
  Imports : (program log answer out : Text) (model : Option Model) → Called
  Explains : (program log refutation : Text) → Called

-- the names of a program and its log
abbrev pub both_in : List Row → Option (Text × Text)
both_in rows = option_zip (first_of (codes "program") rows) (first_of (codes "log") rows)

-- the names of a program, its log and one more file
abbrev pub three_in : Text → List Row → Option ((Text × Text) × Text)
three_in id rows = option_zip (both_in rows) (first_of id rows)

-- what matches say of each command, if they have what it needs

abbrev pub list_in : List Row → Option Called
list_in rows = option_map Lists (first_of (codes "program") rows)

abbrev pub replay_in : List Row → Option Called
replay_in rows = option_map (λ f. Replays f.0.0 f.0.1 f.1) (three_in (codes "schedule") rows)

abbrev pub record_in : List Row → Option Called
record_in rows = option_map (λ f. Records f.0.0 f.0.1 f.1.0 f.1.1.0 f.1.1.1)
    (option_zip (both_in rows) (option_zip (model_in rows) (option_zip (seed_in rows) (steps_in rows))))

abbrev pub migrate_in : List Row → Option Called
migrate_in rows = option_map (λ f. Migrates f.0.0 f.0.1 f.1) (three_in (codes "out") rows)

abbrev pub solve_in : List Row → Option Called
solve_in rows =
    option_map (λ f. Solves f.0.0.0 f.0.0.1 f.0.1 f.1.0 f.1.1 (first_of (codes "least") rows))
    (option_zip (three_in (codes "out") rows) (option_zip (model_in rows) (budget_in rows)))

abbrev pub check_in : List Row → Option Called
check_in rows = option_map (λ f. Checks f.0.0 f.0.1 f.1) (three_in (codes "refutation") rows)

abbrev pub workload_in : List Row → Option Called
workload_in rows = option_map (λ f. Workloads f.0 f.1)
    (option_zip (option_and_then (number_named 1 WORKERS) (first_of (codes "workers") rows))
    (option_and_then (number_named 0 last_seed) (first_of (codes "seed") rows)))

abbrev pub export_in : List Row → Option Called
export_in rows = option_map (λ f. Exports f.0.0.0 f.0.0.1 f.0.1 f.1)
    (option_zip (three_in (codes "out") rows) (model_in rows))

abbrev pub import_in : List Row → Option Called
import_in rows = option_map (λ f. Imports f.0.0.0 f.0.0.1 f.0.1 f.1.0 f.1.1)
    (option_zip (three_in (codes "answer") rows) (option_zip (first_of (codes "out") rows) (model_in rows)))

abbrev pub explain_in : List Row → Option Called
explain_in rows = option_map (λ f. Explains f.0.0 f.0.1 f.1) (three_in (codes "refutation") rows)

-- the call of a subcommand's name and matches
abbrev pub called : Text × List Row → Option Called
called p = if bytes_eq p.0 (codes "list") then list_in p.1
    else if bytes_eq p.0 (codes "replay") then replay_in p.1
    else if bytes_eq p.0 (codes "record") then record_in p.1
    else if bytes_eq p.0 (codes "migrate") then migrate_in p.1
    else if bytes_eq p.0 (codes "solve") then solve_in p.1
    else if bytes_eq p.0 (codes "check") then check_in p.1
    else if bytes_eq p.0 (codes "workload") then workload_in p.1
    else if bytes_eq p.0 (codes "cnf") then export_in p.1
    else if bytes_eq p.0 (codes "import") then import_in p.1
    else if bytes_eq p.0 (codes "why") then explain_in p.1
    else None

-- the call that the words ask for, if they are accepted
abbrev pub call_of : List Text → Option Called
call_of words =
    if is_empty (fault_of command_line words)
    then option_and_then called (subcommand_of command_line words)
    else None

-- whether the words are accepted
abbrev pub words_taken : List Text → Bool
words_taken words = is_some (call_of words)

-- a call as plain data
abbrev pub plain_call : Call → Called
plain_call (call.List program) = Lists program.now
plain_call (call.Replay program log schedule) = Replays program.now log.now schedule.now
plain_call (call.Record program log model seed steps) =
    Records program.now log.now model seed steps
plain_call (call.Migrate program log out) = Migrates program.now log.now out.now
plain_call (call.Solve program log out model budget least) =
    Solves program.now log.now out.now model (option_map (λ b. b.conflicts) budget)
    (option_map (λ s. s.now) least)
plain_call (call.Check program log refutation) = Checks program.now log.now refutation.now
plain_call (call.Workload workers seed) = Workloads workers.count seed
plain_call (call.Cnf program log out model) = Exports program.now log.now out.now model
plain_call (call.Import program log answer out model) =
    Imports program.now log.now answer.now out.now model
plain_call (call.Why program log refutation) = Explains program.now log.now refutation.now
