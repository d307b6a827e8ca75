use Rattle.std.proofs.Common.{◌≡◌, drop}
use Rattle.cnf_core.specs.Clauses.{is_clause, rises_above}
use Rattle.cnf_core.proofs.clause.is_clause.Given as goal

abbrev pub invariant-loop-lit : goal.invariant-loop-lit
invariant-loop-lit l = is_clause l.literals ≡ rises_above l.low (drop l.lit-index l.literals)
