-- What `--check` means.
use Rattle.std.specs.Prelude.{ℕ, List, [], ◌∷◌, Result, Ok, Err}
use Rattle.tc_code.specs.Code.{Code}
use Rattle.tc_compile.specs.Programs.{IsCodeOf, IsRefusal}
use Rattle.command_inputs.specs.command_ends.Outcomes.{Report, command_of}
use Rattle.command_frame.specs.Inputs.{InPieces, Texts, Wanted, Whole}
use Rattle.command_frame.specs.Meaning.{Meaning}
use Rattle.command_inputs.specs.Limits.{program_limit}
use Rattle.command_inputs.specs.declared.refusal.Refusal.{Refusal}
use Rattle.command_inputs.specs.declared.refusal.Refusal.TheVariants.{Program}
use Rattle.certificate_input.specs.Checked.{IsChecked}
use Rattle.certificate_input.specs.declared.verdict.Verdict.{Verdict}
use Rattle.certificate_check.specs.Lines.{verdict_line, verdict_status}
use Rattle.certificate_check.specs.declared.command.CheckCertificate.{CheckCertificate}

-- `PROGRAM CERTIFICATE --check`: the names of its files
pub record Check : Type 0 where
  pub program : List ℕ
  pub certificate : List ℕ

abbrev pub plain_check : CheckCertificate → Check
plain_check check = record { program = check.program.name.now; certificate = check.certificate.now }

-- the files that it reads
abbrev pub inputs_of : Check → List Wanted
inputs_of call = Whole program_limit call.program ∷ InPieces call.certificate ∷ []

-- why the certificate isn't checked
abbrev pub IsUnread : (program : List ℕ) → Refusal → Type 0
IsUnread program (Program fault) = IsRefusal program fault
IsUnread program _ = ⊥

-- what comes of the bytes of the files
abbrev pub ComesTo : Texts → Result Verdict Refusal → Type 0
ComesTo (program ∷ certificate ∷ []) (Ok v) =
    (code : Code) × IsCodeOf program code × IsChecked code certificate v
ComesTo (program ∷ certificate ∷ []) (Err r) = IsUnread program r
ComesTo _ outcome = ⊥

-- a verdict is told, and nothing is kept
abbrev pub report : Report Verdict
report = record { keeps_of = λ _. []; line_of = verdict_line; status_of = verdict_status }

-- the command
abbrev pub check_of : Check → Meaning (Result Verdict Refusal)
check_of call = command_of (inputs_of call) ComesTo report
