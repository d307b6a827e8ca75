use Rattle.std.proofs.Common.{◌≡◌, drop}
use Rattle.refute_check.specs.Refutations.{can_delete, without_clauses}
use Rattle.refute_check.proofs.hints.delete.Given as goal

abbrev pub invariant-loop-number : goal.invariant-loop-number
invariant-loop-number l =
    record {
      all : can_delete l.initial.kept l.numbers ≡ can_delete l.kept (drop l.number-index l.numbers);
      gone : without_clauses l.initial.kept l.numbers ≡ without_clauses l.kept (drop l.number-index l.numbers);
    }
