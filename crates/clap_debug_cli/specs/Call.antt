-- What a call of the program does and answers.
use Rattle.std.specs.Prelude.{◌≡◌, ℕ, List, ◌++◌, codes, Option, Some, None, IfSome}
use Rattle.tc_io.specs.Outside.{Files, ShelfTells, SinkTells, bytes_at}
use Rattle.command_frame.specs.Answers.{SaysLine}
use Rattle.command_frame.specs.End.{End}
use Rattle.command_frame.specs.Run.{Runs}
use Rattle.command_frame.specs.declared.status.Status.TheVariants.{Usage}
use Rattle.check_command.specs.Answers.{CheckAnswers}
use Rattle.check_command.specs.Meanings.{check_of}
use Rattle.cnf_command.specs.Answers.{CnfAnswers}
use Rattle.cnf_command.specs.Meanings.{cnf_of}
use Rattle.import_command.specs.Answers.{ImportAnswers}
use Rattle.import_command.specs.Meanings.{import_of}
use Rattle.least_command.specs.Answers.{LeastAnswers}
use Rattle.least_command.specs.Meanings.{least_of}
use Rattle.list_command.specs.Answers.{ListAnswers}
use Rattle.list_command.specs.Listing.{list_of}
use Rattle.migrate_command.specs.Answers.{MigrateAnswers}
use Rattle.migrate_command.specs.Meanings.{migrate_of}
use Rattle.record_command.specs.Answers.{RecordAnswers}
use Rattle.record_command.specs.Meanings.{record_of}
use Rattle.replay_command.specs.Answers.{ReplayAnswers}
use Rattle.replay_command.specs.Meanings.{replay_of}
use Rattle.solve_command.specs.Answers.{SolveAnswers}
use Rattle.solve_command.specs.Calls.{Solve}
use Rattle.solve_command.specs.Meanings.{solve_of}
use Rattle.why_command.specs.Answers.{WhyAnswers}
use Rattle.why_command.specs.Meanings.{why_of}
use Rattle.workload_command.specs.Answers.{WorkloadAnswers}
use Rattle.workload_command.specs.Meanings.{workload_of}
use Rattle.clap_debug_words.specs.Calls.{Called, Lists, Replays, Records, Migrates, Solves, Checks, Workloads, Exports, Imports, Explains, call_of}
use Rattle.clap_debug_cli.specs.Requests.{asked, imported, migrated, minimized, recorded, refuted, solved, worked}

abbrev pub usage_text : List ℕ
usage_text =
    codes "usage: clap_debug record PROGRAM LOG [--model sc|tso|pso] [--seed N] [--steps N]\n"
    ++ codes "usage: clap_debug solve PROGRAM LOG OUT [--model sc|tso|pso] [--budget N] "
    ++ codes "[--least REFUTATION]\n"
    ++ codes "usage: clap_debug replay PROGRAM LOG SCHEDULE\n"
    ++ codes "usage: clap_debug check PROGRAM LOG REFUTATION\n"
    ++ codes "usage: clap_debug list PROGRAM\n"
    ++ codes "usage: clap_debug workload N SEED\n"
    ++ codes "usage: clap_debug migrate PROGRAM LOG OUT\n"
    ++ codes "usage: clap_debug cnf PROGRAM LOG OUT [--model sc|tso|pso]\n"
    ++ codes "usage: clap_debug import PROGRAM LOG ANSWER OUT [--model sc|tso|pso]\n"
    ++ codes "usage: clap_debug why PROGRAM LOG REFUTATION\n"

-- a search of a log ran, or, if a name for the refutation is given, that for the fewest switches
abbrev pub RunsSearch : Solve → (refutation : Option (List ℕ)) → ShelfTells → ShelfTells
    → (status : ℕ) → SinkTells → SinkTells → Type 0
RunsSearch call None = Runs (solve_of call)
RunsSearch call (Some refutation) = Runs (least_of (minimized call refutation))

-- the command of a call ran
abbrev pub RunsCall : Called → ShelfTells → ShelfTells → (status : ℕ) → SinkTells → SinkTells
    → Type 0
RunsCall (Lists program) = Runs (list_of program)
RunsCall (Replays program log schedule) = Runs (replay_of program log schedule)
RunsCall (Records program log model seed steps) =
    Runs (record_of (recorded program log model seed steps))
RunsCall (Migrates program log out) = Runs (migrate_of (migrated program log out))
RunsCall (Solves program log out model budget least) =
    RunsSearch (solved program log out model budget) least
RunsCall (Checks program log refutation) = Runs (check_of (refuted program log refutation))
RunsCall (Workloads workers seed) = Runs (workload_of (worked workers seed))
RunsCall (Exports program log out model) = Runs (cnf_of (asked program log out model))
RunsCall (Imports program log answer out model) =
    Runs (import_of (imported program log answer out model))
RunsCall (Explains program log refutation) = Runs (why_of (refuted program log refutation))

-- the command ran that words ask for; if they ask for none, the usage was put, and nothing else
abbrev pub Does : Option Called → ShelfTells → ShelfTells → (status : ℕ) → SinkTells → SinkTells
    → Type 0
Does (Some call) old new status before after = RunsCall call old new status before after
Does None old new status before after = (new ≡ old) × SaysLine usage_text Usage status before after

-- the answers of a search of a log, or of one for the fewest switches, to known files
abbrev pub SearchAnswers : Solve → (refutation : Option (List ℕ)) → Files → End → Type 0
SearchAnswers call None files e = SolveAnswers call files e
SearchAnswers call (Some refutation) files e = LeastAnswers (minimized call refutation) files e

-- the answers of the command of a call to known files
abbrev pub Answers : Called → Files → End → Type 0
Answers (Lists program) files e = ListAnswers (bytes_at files program) e.status e.before e.after
Answers (Replays program log schedule) files e =
    ReplayAnswers (bytes_at files program) (bytes_at files log)
    (bytes_at files schedule) e.status e.before e.after
Answers (Records program log model seed steps) files e =
    RecordAnswers (recorded program log model seed steps) files e
Answers (Migrates program log out) files e = MigrateAnswers (migrated program log out) files e
Answers (Solves program log out model budget least) files e =
    SearchAnswers (solved program log out model budget) least files e
Answers (Checks program log refutation) files e =
    CheckAnswers (refuted program log refutation) files e
Answers (Workloads workers seed) files e = WorkloadAnswers (worked workers seed) files e
Answers (Exports program log out model) files e = CnfAnswers (asked program log out model) files e
Answers (Imports program log answer out model) files e =
    ImportAnswers (imported program log answer out model) files e
Answers (Explains program log refutation) files e =
    WhyAnswers (refuted program log refutation) files e

-- a fact about a call and the files, if the words ask for one and the shelf tells what it holds
abbrev pub IfTold : List (List ℕ) → Option Files → (Called → Files → Type 0) → Type 0
IfTold words held P = IfSome (call_of words) (λ call. IfSome held (λ files. P call files))
