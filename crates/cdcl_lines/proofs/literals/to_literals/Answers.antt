use Rattle.std.proofs.Common.{◌≡◌, ℤ, List, true, sym, ◌∙◌, subst, arith}
use Rattle.std.proofs.lemmas.List.{take_all}
use Rattle.cnf_core.specs.Clauses.{is_within}
use Rattle.cdcl_lines.specs.Literals.{clause_of}
use Rattle.cdcl_lines.proofs.Numbers.{within-from}
use Rattle.cdcl_lines.proofs.literals.to_literals.Goals as goal

pub returns-clause-within : goal.returns-clause-within
returns-clause-within c = λ vars w.
    let whole : clause_of c.loop-lit.literals.items ≡ c.args.clause.now = c.loop-lit.invariant ∙ take_all c.loop-lit.lit-index c.args.clause.now (omega arith) in
    within-from vars c.loop-lit.literals.items (subst (λ (xs : List ℤ). is_within vars xs ≡ true) (sym whole) w)
