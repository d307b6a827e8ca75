-- What `record` means.
use Rattle.std.specs.Prelude.{ℕ, List, [], ◌∷◌, Result, Ok, Err}
use Rattle.memory_models.specs.declared.model.Model.{Model}
use Rattle.tc_code.specs.Code.{Code}
use Rattle.tc_compile.specs.Programs.{IsCodeOf, IsRefusal}
use Rattle.tc_record.specs.Seeded.{Ended}
use Rattle.command_inputs.specs.command_ends.Outcomes.{Report, command_of}
use Rattle.command_frame.specs.Inputs.{Texts, Wanted, Whole}
use Rattle.command_frame.specs.Keeps.{Keep}
use Rattle.command_frame.specs.Meaning.{Meaning}
use Rattle.command_inputs.specs.Limits.{program_limit}
use Rattle.command_inputs.specs.declared.refusal.Refusal.{Refusal}
use Rattle.command_inputs.specs.declared.refusal.Refusal.TheVariants.{Program}
use Rattle.record_command.specs.Lines.{ran_said}
use Rattle.record_command.specs.Logs.{IsLogText}
use Rattle.record_command.specs.Runs.{HasEnded, HasOutcome, Record, run_of}
use Rattle.record_command.specs.declared.ending.Ran.{Ran}
use Rattle.record_command.specs.declared.ending.Ran.TheVariants.{Logged, Unlogged}

-- the run of a code of the program ended so
abbrev pub IsRanAs : {B : Type 0} → Model → (program : List ℕ) → Code → Ended B → Ran → Type 0
IsRanAs model program code run (Logged o text) =
    HasOutcome code run o × IsLogText model program run text.items
IsRanAs model program code run (Unlogged e) = HasEnded run e

-- the run of the program ended so
abbrev pub IsRanOf : Record → (program : List ℕ) → Ran → Type 0
IsRanOf call program x =
    (code : Code) × IsCodeOf program code × IsRanAs call.model program code (run_of call code) x

-- why the program isn't run
abbrev pub IsUnread : (program : List ℕ) → Refusal → Type 0
IsUnread program (Program fault) = IsRefusal program fault
IsUnread program _ = ⊥

-- what comes of the bytes of the program: its run, or why there is none
abbrev pub ComesTo : Record → Texts → Result Ran Refusal → Type 0
ComesTo call (program ∷ []) (Ok x) = IsRanOf call program x
ComesTo call (program ∷ []) (Err r) = IsUnread program r
ComesTo call _ outcome = ⊥

abbrev pub inputs_of : Record → List Wanted
inputs_of call = Whole program_limit call.program ∷ []

-- what is kept: the text of the log
abbrev pub keeps_of : Record → Ran → List Keep
keeps_of call (Logged o text) = record { name = call.log; bytes = text.items } ∷ []
keeps_of call (Unlogged e) = []

-- what is done with a run
abbrev pub report_of : Record → Report Ran
report_of call = record {
  keeps_of = keeps_of call;
  line_of = λ x. (ran_said x).1;
  status_of = λ x. (ran_said x).0;
}

-- `record`
abbrev pub record_of : Record → Meaning (Result Ran Refusal)
record_of call = command_of (inputs_of call) (ComesTo call) (report_of call)
