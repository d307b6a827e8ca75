-- Which refutations `check` accepts.
use Rattle.std.specs.Prelude.{List, ℕ, Ok}
use Rattle.refutation_verdicts.specs.refute_check.Laws.{IsWhole}
use Rattle.refutation_verdicts.specs.refute_check.Refutations.{IsClosed, IsOpen}
use Rattle.refutation_verdicts.specs.refute_check.Texts.{refutation_text}
use Rattle.refutation_verdicts.specs.refute_check.declared.head.Head.{Head}
use Rattle.refutation_verdicts.specs.refute_check.declared.line.Line.{Line}
use Rattle.refutation_verdicts.specs.log_tasks.Tasks.{Task}
use Rattle.refutation_input.specs.Checked.{IsChecked}
use Rattle.refutation_verdicts.specs.Refutations.{head_clauses}
use Rattle.refutation_verdicts.specs.declared.verdict.Verdict.TheVariants.{Closed, Open}

-- for a task, the text of lines that are closed on the clauses of its header is accepted as closed
abbrev pub ClosedIsAccepted : Type 0
ClosedIsAccepted =
    (program log : List ℕ) (t : Task program log) (head : Head) (lines : List Line)
    → IsWhole head lines → IsClosed (head_clauses head t.pair.code t.pair.run.log) lines
    → IsChecked program log (refutation_text head lines) (Ok (Closed head.switches))

-- and that of open lines as open
abbrev pub OpenIsAccepted : Type 0
OpenIsAccepted =
    (program log : List ℕ) (t : Task program log) (head : Head) (lines : List Line)
    → IsWhole head lines → IsOpen (head_clauses head t.pair.code t.pair.run.log) lines
    → IsChecked program log (refutation_text head lines) (Ok Open)
