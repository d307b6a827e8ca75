-- What `check` means.
use Rattle.std.specs.Prelude.{ℕ, List, [], ◌∷◌, Option, Result}
use Rattle.command_frame.specs.Inputs.{InPieces, Texts, Wanted, Whole}
use Rattle.command_frame.specs.Meaning.{Meaning}
use Rattle.command_inputs.specs.Limits.{log_limit, program_limit}
use Rattle.command_inputs.specs.declared.refusal.Refusal.{Refusal}
use Rattle.refutation_verdicts.specs.command_ends.Outcomes.{command_of}
use Rattle.refutation_verdicts.specs.Refutations.{Names}
use Rattle.refutation_verdicts.specs.Verdicts.{closed_line, verdict_report}
use Rattle.refutation_verdicts.specs.declared.verdict.Verdict.{Verdict}
use Rattle.refutation_input.specs.Checked.{IsChecked}
use Rattle.check_command.specs.declared.command.Check.{Check as RawCheck}

-- the names of a call
abbrev pub names_of : RawCheck → Names
names_of check = record {
  program = check.inputs.0.name.now;
  log = check.inputs.1.name.now;
  refutation = check.refutation.now;
}

-- the files of `check`
abbrev pub inputs_of : Names → List Wanted
inputs_of call =
    Whole program_limit call.program ∷ Whole log_limit call.log ∷ InPieces call.refutation ∷ []

-- what comes of the bytes of the files
abbrev pub Checks : Texts → Result (Verdict (Option ℕ)) Refusal → Type 0
Checks (program ∷ log ∷ refutation ∷ []) outcome = IsChecked program log refutation outcome
Checks _ outcome = ⊥

-- `check PROGRAM LOG REFUTATION`
abbrev pub check_of : Names → Meaning (Result (Verdict (Option ℕ)) Refusal)
check_of call = command_of (inputs_of call) Checks (verdict_report closed_line)
