-- What `why` means.
use Rattle.std.specs.Prelude.{List, [], ◌∷◌, Result}
use Rattle.why_impossible.specs.Reasons.{reasons_text}
use Rattle.why_impossible.specs.declared.reason.Reason.{Reason}
use Rattle.command_frame.specs.Inputs.{Entire, Wanted, Whole}
use Rattle.command_frame.specs.Meaning.{Meaning}
use Rattle.command_inputs.specs.Limits.{log_limit, program_limit}
use Rattle.command_inputs.specs.declared.refusal.Refusal.{Refusal}
use Rattle.refutation_verdicts.specs.command_ends.Outcomes.{command_of}
use Rattle.refutation_verdicts.specs.Refutations.{Names}
use Rattle.refutation_verdicts.specs.Verdicts.{verdict_report}
use Rattle.refutation_verdicts.specs.declared.verdict.Verdict.{Verdict}
use Rattle.why_command.specs.Causes.{Explains}
use Rattle.why_command.specs.declared.command.Why.{Why as RawWhy}

-- the names of a call
abbrev pub names_of : RawWhy → Names
names_of why = record {
  program = why.inputs.0.0.name.now;
  log = why.inputs.0.1.name.now;
  refutation = why.inputs.1.name.now;
}

-- the files of `why`
abbrev pub inputs_of : Names → List Wanted
inputs_of call =
    Whole program_limit call.program ∷ Whole log_limit call.log ∷ Entire call.refutation ∷ []

-- `why PROGRAM LOG REFUTATION`
abbrev pub why_of : Names → Meaning (Result (Verdict (List Reason)) Refusal)
why_of call = command_of (inputs_of call) Explains (verdict_report reasons_text)
