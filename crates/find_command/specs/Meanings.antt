-- What a search means.
use Rattle.std.specs.Prelude.{ℕ, List, [], ◌∷◌, Result, Ok, Err}
use Rattle.tc_compile.specs.Programs.{IsRefusal}
use Rattle.command_inputs.specs.command_ends.Outcomes.{Report, command_of}
use Rattle.command_frame.specs.Inputs.{Texts}
use Rattle.command_frame.specs.Keeps.{Keep}
use Rattle.command_frame.specs.Meaning.{Meaning}
use Rattle.command_inputs.specs.declared.refusal.Refusal.{Refusal}
use Rattle.command_inputs.specs.declared.refusal.Refusal.TheVariants.{Program}
use Rattle.find_command.specs.Calls.{Search, inputs_of}
use Rattle.find_command.specs.Findings.{AreFindings}
use Rattle.find_command.specs.Lines.{findings_line, finding_status}
use Rattle.find_command.specs.declared.finding.Finding.{Finding}
use Rattle.find_command.specs.declared.finding.Finding.TheVariants.{Possible, Never, Spent}
use Rattle.find_command.specs.declared.finding.Findings.{Findings}

-- why the program isn't searched
abbrev pub IsUnread : (program : List ℕ) → Refusal → Type 0
IsUnread program (Program fault) = IsRefusal program fault
IsUnread program _ = ⊥

-- what comes of the bytes of the program: what a search finds in it, or why it isn't searched
abbrev pub ComesTo : Search → Texts → Result Findings Refusal → Type 0
ComesTo call (program ∷ []) (Ok x) = AreFindings program call x
ComesTo call (program ∷ []) (Err r) = IsUnread program r
ComesTo call _ outcome = ⊥

-- what is kept: the text of a log that is possible, or of which it isn't known, or a certificate
abbrev pub keeps_of : Search → Finding → List Keep
keeps_of call (Possible text) = record { name = call.out; bytes = text.items } ∷ []
keeps_of call (Never reach text) = record { name = call.out; bytes = text.items } ∷ []
keeps_of call (Spent text) = record { name = call.out; bytes = text.items } ∷ []
keeps_of call _ = []

-- what is done with findings
abbrev pub report_of : Search → Report Findings
report_of call = record {
  keeps_of = λ x. keeps_of call x.finding;
  line_of = findings_line call.asked;
  status_of = λ x. finding_status x.finding;
}

-- the command
abbrev pub search_of : Search → Meaning (Result Findings Refusal)
search_of call = command_of (inputs_of call) (ComesTo call) (report_of call)
