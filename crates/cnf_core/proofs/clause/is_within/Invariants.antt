use Rattle.std.proofs.Common.{◌≡◌, drop}
use Rattle.cnf_core.specs.Clauses.{is_within}
use Rattle.cnf_core.proofs.clause.is_within.Given as goal

abbrev pub invariant-loop-lit : goal.invariant-loop-lit
invariant-loop-lit l = is_within l.vars l.literals ≡ is_within l.vars (drop l.lit-index l.literals)
