-- What `list` means.
use Rattle.std.specs.Prelude.{◌≡◌, ℕ, List, [], ◌∷◌, Result, Ok, Err}
use Rattle.tc_code.specs.Code.{Code}
use Rattle.tc_code.specs.Listing.{listing_of}
use Rattle.tc_compile.specs.Programs.{IsCodeOf, IsRefusal}
use Rattle.command_frame.specs.Inputs.{Texts, Whole}
use Rattle.command_frame.specs.Meaning.{Meaning}
use Rattle.command_frame.specs.declared.status.Status.TheVariants.{Done}
use Rattle.command_inputs.specs.Limits.{program_limit}
use Rattle.command_inputs.specs.Outcomes.{outcome_status, outcome_text}
use Rattle.command_inputs.specs.declared.refusal.Refusal.{Refusal}
use Rattle.command_inputs.specs.declared.refusal.Refusal.TheVariants.{Program}

-- what comes of the bytes of a program: its code, or why it has none
abbrev pub Lists : Texts → Result Code Refusal → Type 0
Lists (program ∷ []) (Ok code) = IsCodeOf program code
Lists (program ∷ []) (Err (Program fault)) = IsRefusal program fault
Lists _ outcome = ⊥

-- `list PROGRAM`
abbrev pub list_of : (name : List ℕ) → Meaning (Result Code Refusal)
list_of name = record {
  inputs = Whole program_limit name ∷ [];
  ComesOf = Lists;
  keeps_of = λ _. [];
  IsTextOf = λ outcome text. text ≡ outcome_text listing_of outcome;
  status_of = outcome_status (λ _. Done);
}
