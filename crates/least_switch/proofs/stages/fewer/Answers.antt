use Rattle.std.proofs.Common.{subst}
use Rattle.cnf_core.specs.Clauses.{Formula}
use Rattle.cdcl_core.specs.Solving.{IsAnswerOn}
use Rattle.least_switch.specs.helpers.Found.{IsBestUpTo}
use Rattle.least_switch.proofs.stages.fewer.Goals as goal

pub returns-clause-found : goal.returns-clause-found
returns-clause-found g c =
    let Is = IsBestUpTo g.M.MemoryModel.ops g.M.MemoryModel.MODEL c.args.code.now c.args.log.now.log c.args.most in
    subst (λ (f : Formula). IsAnswerOn f c.args.budget Is c.in_ok-found.field-0) c.in_ok-bounded.ensures.bounded.clauses c.in_ok-found.ensures
