-- What comes of a program, a log and a refutation.
use Rattle.std.specs.Prelude.{◌≡◌, ℕ, List, Option, Result, Ok, Err}
use Rattle.refute_check.specs.Broken.{BreaksAt}
use Rattle.refute_check.specs.Refutations.{check}
use Rattle.command_inputs.specs.declared.refusal.Refusal.{Refusal}
use Rattle.log_tasks.specs.Tasks.{Task}
use Rattle.refutation_verdicts.specs.Causes.{IsUnjudged}
use Rattle.refutation_verdicts.specs.Refutations.{Refutation, clauses_under}
use Rattle.refutation_verdicts.specs.Verdicts.{IsVerdict}
use Rattle.refutation_verdicts.specs.declared.verdict.Verdict.{Verdict}

-- the verdict of `check`, or why there is none
abbrev pub IsChecked : (program log refutation : List ℕ) → Result (Verdict (Option ℕ)) Refusal
    → Type 0
IsChecked program log refutation (Ok v) = (t : Task program log) × (r : Refutation refutation)
    × IsVerdict (λ most. most ≡ r.head.switches) (check (clauses_under t r) r.lines) v
IsChecked program log refutation (Err why) =
    IsUnjudged program log (Refutation refutation) (BreaksAt refutation) why
