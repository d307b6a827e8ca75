use Rattle.std.proofs.Common.{subst, sym, IsTrue}
use Rattle.std.specs.Borrow.{Bor}
use Rattle.std.specs.Prelude.{List, ℤ}
use Rattle.cnf_core.specs.Clauses.{is_clause, is_within}
use Rattle.cnf_core.proofs.Pieces.{good-at}
use Rattle.cnf_core.proofs.cnf.Cnf.push_all.Goals as goal

pub push-requires-clause-rises : goal.push-requires-clause-rises
push-requires-clause-rises c =
    let g = good-at c.args.self.now.vars c.args.clauses.now c.loop-clause.clause-index c.clause-item.result c.requires.clauses c.loop-clause-test.true in
    subst (λ (b : Bor (List ℤ)). IsTrue (is_clause b.now)) (sym c.clause-item.is) g.0

pub push-requires-clause-within : goal.push-requires-clause-within
push-requires-clause-within c =
    let g = good-at c.args.self.now.vars c.args.clauses.now c.loop-clause.clause-index c.clause-item.result c.requires.clauses c.loop-clause-test.true in
    subst (λ n. IsTrue (is_within n c.clause-item.result.now)) (sym c.loop-clause.invariant.vars)
    (subst (λ (b : Bor (List ℤ)). IsTrue (is_within c.args.self.now.vars b.now)) (sym c.clause-item.is) g.1)
