use Rattle.std.proofs.Common.{sym, ◌∙◌, ap}
use Rattle.std.specs.Prelude.{◌&&◌}
use Rattle.cnf_core.specs.Clauses.{clause_true, value_in}
use Rattle.cnf_core.proofs.Pieces.{is_within-upto, satisfies-more}
use Rattle.dimacs_text.proofs.FirstFalse.{first_false_at}
use Rattle.dimacs_text.proofs.falsified.first_false.Goals as goal

pub is_true-requires : goal.is_true-requires
is_true-requires c = is_within-upto _ _ _ c.requires c.clause.ensures.within

pub returns-then-not-is_true-clause-first : goal.returns-then-not-is_true-clause-first
returns-then-not-is_true-clause-first c = first_false_at (value_in c.args.assignment.now) c.args.cnf.now.clauses c.loop-place.place c.clause.result.now
    c.clause.ensures.clause c.loop-place.invariant (sym c.if-not-is_true.ensures)

pub loop-place-preserved : goal.loop-place-preserved
loop-place-preserved c =
    satisfies-more (value_in c.args.assignment.now) c.args.cnf.now.clauses c.loop-place.place c.clause.result.now c.clause.ensures.clause
    ∙ ap (λ b. b && clause_true (value_in c.args.assignment.now) c.clause.result.now) c.loop-place.invariant
    ∙ sym c.if-not-is_true.ensures
