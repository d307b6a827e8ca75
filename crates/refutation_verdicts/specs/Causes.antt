-- Why a refutation isn't judged.
use Rattle.std.specs.Prelude.{ℕ, List}
use Rattle.command_inputs.specs.Forms.{IsUnread}
use Rattle.command_inputs.specs.declared.refusal.LogRefusal.TheVariants.{Form}
use Rattle.command_inputs.specs.declared.refusal.Refusal.{Refusal}
use Rattle.command_inputs.specs.declared.refusal.Refusal.TheVariants as refusal
use Rattle.log_tasks.specs.Refused.{IsUnsearched}
use Rattle.log_tasks.specs.Tasks.{Pair}

-- Why a refutation isn't judged, the first test that fails: the form of the program, of the log and
-- of the refutation, and then whether the log is of this program and has clauses.
abbrev pub IsUnjudged : (program log : List ℕ) → (HasForm : Type 0) → (BreaksForm : ℕ → Type 0)
    → Refusal → Type 0
IsUnjudged program log HasForm BreaksForm (refusal.Program fault) =
    IsUnread program log (refusal.Program fault)
IsUnjudged program log HasForm BreaksForm (refusal.Log (Form offset)) =
    IsUnread program log (refusal.Log (Form offset))
IsUnjudged program log HasForm BreaksForm (refusal.Refutation line) =
    Pair program log × BreaksForm line
IsUnjudged program log HasForm BreaksForm why = HasForm × IsUnsearched program log why
