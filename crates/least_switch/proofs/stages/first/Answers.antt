use Rattle.std.proofs.Common.{subst}
use Rattle.cdcl_core.specs.Solving.{IsAnswerOn}
use Rattle.clap_solve.specs.Posed.{Posed}
use Rattle.least_switch.specs.helpers.Found.{IsBest}
use Rattle.least_switch.proofs.stages.first.Goals as goal

pub returns-clause-found : goal.returns-clause-found
returns-clause-found g c =
    let Is = IsBest g.M.MemoryModel.ops g.M.MemoryModel.MODEL c.args.code.now c.args.log.now.log in
    record {
      given = c.in_ok-posed.ensures.posed.given;
      found = subst (λ (p : Posed). IsAnswerOn p.blasted.clauses c.args.budget Is c.in_ok-found.field-0) c.in_ok-posed.ensures.posed.is c.in_ok-found.ensures;
    }
