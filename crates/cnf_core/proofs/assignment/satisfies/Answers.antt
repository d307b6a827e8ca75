use Rattle.std.proofs.Common.{sym, ◌∙◌, ap}
use Rattle.std.specs.Prelude.{◌&&◌}
use Rattle.cnf_core.specs.Clauses.{clause_true, value_in}
use Rattle.cnf_core.proofs.Pieces.{satisfies-more, satisfies-not, is_within-upto}
use Rattle.cnf_core.proofs.assignment.satisfies.Goals as goal

pub is_clause_true-requires : goal.is_clause_true-requires
is_clause_true-requires c = is_within-upto _ _ _ c.requires c.clause.ensures.within

pub returns-then-not-is_clause_true : goal.returns-then-not-is_clause_true
returns-then-not-is_clause_true c = sym (satisfies-not (value_in c.args.assignment.now) c.args.cnf.now.clauses c.loop-place.place c.clause.result.now
    c.clause.ensures.clause (sym (c.if-not-is_clause_true.ensures)))

pub loop-place-preserved : goal.loop-place-preserved
loop-place-preserved c =
    satisfies-more (value_in c.args.assignment.now) c.args.cnf.now.clauses c.loop-place.place c.clause.result.now c.clause.ensures.clause
    ∙ ap (λ b. b && clause_true (value_in c.args.assignment.now) c.clause.result.now) c.loop-place.invariant
    ∙ sym c.if-not-is_clause_true.ensures
