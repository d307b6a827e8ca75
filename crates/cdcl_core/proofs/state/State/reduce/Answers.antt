use Rattle.std.proofs.Common.{ap, arith}
use Rattle.std.proofs.lemmas.Result.{on_ok_weaker}
use Rattle.cnf_core.specs.Clauses.{Formula}
use Rattle.cdcl_core.proofs.state.State.reduce.Goals as goal

pub returns-clause-bound : goal.returns-clause-bound
returns-clause-bound c =
    let d = c.drop_all.ensures in
    on_ok_weaker c.drop_all.result
    (λ e. omega (arith, e, c.requires.agree.bound, d.further.added, ap (λ (f : Formula). f.vars) d.further.formula)) d.deleted
