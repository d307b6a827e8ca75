-- The verdict on a refutation, with its line and its status.
use Rattle.std.specs.Prelude.{◌≡◌, ℕ, List, [], ◌++◌, Option, Some, None, Result, Ok, Err, codes}
use Rattle.std.specs.Fmt.{decimal}
use Rattle.refute_check.specs.declared.verdict.CheckFault.{CheckFault}
use Rattle.refute_check.specs.declared.verdict.CheckFault.TheVariants.{NoVariable, NoClause, Hint, NoConflict, Memory}
use Rattle.refute_check.specs.declared.verdict.Checked.{Checked}
use Rattle.refute_check.specs.declared.verdict.Checked.TheVariants as checked
use Rattle.command_frame.specs.declared.status.Status.{Status}
use Rattle.command_frame.specs.declared.status.Status.TheVariants as status
use Rattle.command_inputs.specs.command_ends.Outcomes.{Report}
use Rattle.refutation_verdicts.specs.declared.verdict.Verdict.{Verdict}
use Rattle.refutation_verdicts.specs.declared.verdict.Verdict.TheVariants.{Closed, Open, LineRefused}

-- the line of a fault
abbrev pub line_of : CheckFault → Option ℕ
line_of (NoVariable line) = Some line
line_of (NoClause line) = Some line
line_of (Hint line) = Some line
line_of (NoConflict line) = Some line
line_of Memory = None

-- this line is the first that doesn't pass
abbrev pub IsRefusedAt : Result Checked CheckFault → ℕ → Type 0
IsRefusedAt found line = (fault : CheckFault) × (found ≡ Err fault) × (line_of fault ≡ Some line)

-- the verdict that a checker found, where `P` holds of what closed lines show
abbrev pub IsVerdict : {A : Type 0} → (A → Type 0) → Result Checked CheckFault → Verdict A → Type 0
IsVerdict P found (Closed x) = (found ≡ Ok checked.Closed) × P x
IsVerdict P found Open = found ≡ Ok checked.Open
IsVerdict P found (LineRefused n) = IsRefusedAt found n

-- the line for a closed refutation, by the number of switches that it names, if any
abbrev pub closed_line : Option ℕ → List ℕ
closed_line None = codes "accepted, impossible\n"
closed_line (Some most) = codes "accepted, more than " ++ (decimal most ++ codes " switches\n")

abbrev pub open_line : List ℕ
open_line = codes "accepted, open\n"

abbrev pub refused_line : ℕ → List ℕ
refused_line n = codes "line " ++ (decimal n ++ codes " refused\n")

-- the text of a verdict, by the text of what closed lines show
abbrev pub verdict_text : {A : Type 0} → (A → List ℕ) → Verdict A → List ℕ
verdict_text closed_text (Closed x) = closed_text x
verdict_text closed_text Open = open_line
verdict_text closed_text (LineRefused n) = refused_line n

abbrev pub verdict_status : {A : Type 0} → Verdict A → Status
verdict_status (Closed _) = status.Done
verdict_status Open = status.Open
verdict_status (LineRefused _) = status.Fails

-- a verdict is told, and nothing is kept
abbrev pub verdict_report : {A : Type 0} → (closed_text : A → List ℕ) → Report (Verdict A)
verdict_report closed_text = record {
  keeps_of = λ _. [];
  line_of = verdict_text closed_text;
  status_of = verdict_status;
}

-- the status that a checker's finding leads to
abbrev pub found_status : Result Checked CheckFault → Status
found_status (Ok checked.Closed) = status.Done
found_status (Ok checked.Open) = status.Open
found_status (Err _) = status.Fails
