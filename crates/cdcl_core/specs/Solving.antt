-- What a finished search returns.
use Rattle.std.specs.Prelude.{◌≡◌, ℕ, Bool, List, count_by}
use Rattle.cnf_core.specs.Clauses.{Formula}
use Rattle.refute_check.specs.Refutations.{IsClosed, IsOpen}
use Rattle.cdcl_lines.specs.Fresh.{AreFresh}
use Rattle.cdcl_core.specs.Searches.{adds, count_of_added, DeletesFew, IsSolution}
use Rattle.cdcl_core.specs.declared.answer.Answer.{Answer}
use Rattle.cdcl_core.specs.declared.answer.Answer.TheVariants.{Found, Impossible, Spent}

-- what was found, if anything, has a property
abbrev pub IfFound : {T : Type 0} → (T → Type 0) → Answer T → Type 0
IfFound Is (Found x) = Is x
IfFound Is _ = Unit {0}

-- what was found has a property; or a derivation is closed, fresh and deletes few clauses; or it is
-- open, fresh and deletes few, and adds as many clauses as the budget says, none of them empty
abbrev pub IsAnswerOn : {T : Type 0} → Formula → ℕ → (T → Type 0) → Answer T → Type 0
IsAnswerOn f budget Is (Found x) = Is x
IsAnswerOn f budget Is (Impossible lines) = IsClosed f lines × AreFresh f lines × DeletesFew f lines
IsAnswerOn f budget Is (Spent lines) =
    IsOpen f lines × AreFresh f lines × DeletesFew f lines × (count_of_added lines ≡ budget)
    × (count_by adds lines ≡ budget)

-- what was found are values that satisfy the clauses
abbrev pub Solves : Formula → ℕ → Answer (List Bool) → Type 0
Solves f budget = IsAnswerOn f budget (IsSolution f)

-- the same answer, with something else in place of what was found
abbrev pub IsMapped : {T U : Type 0} → (T → U → Type 0) → Answer T → Answer U → Type 0
IsMapped R (Found x) (Found y) = R x y
IsMapped R (Impossible lines) (Impossible own) = own ≡ lines
IsMapped R (Spent lines) (Spent own) = own ≡ lines
IsMapped R _ _ = ⊥
