use Rattle.std.proofs.Common.{◌≡◌, ◌<◌, ◌≤◌, ℕ, true, false, length, get_or}
use Rattle.cdcl_clauses.specs.Clauses.{at}
use Rattle.cdcl_core.proofs.state.State.first_to_go.Given as goal

abbrev pub invariant-loop-number : goal.invariant-loop-number
invariant-loop-number l =
    (k : ℕ) → length l.self.formula.clauses ≤ k → k < l.number → (at l.self.clauses k).kept ≡ true → get_or l.reasons.items k false ≡ true
