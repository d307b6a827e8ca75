use Rattle.std.proofs.Common.{◌-◌, Bool, refl, subst, arith}
use Rattle.cdcl_core.specs.Solving.{IsAnswerOn, Solves}
use Rattle.cdcl_core.specs.declared.answer.Answer.TheVariants as answer
use Rattle.switch_clauses.specs.Clauses.{switch_clauses}
use Rattle.least_switch.specs.helpers.Found.{IsBestUpTo}
use Rattle.least_switch.proofs.Told.{fewer_spent, fewest_found, none_fewer}
use Rattle.least_switch.proofs.searching.fewest.Goals as goal

pub returns-in-Impossible-clause-ok : goal.returns-in-Impossible-clause-ok
returns-in-Impossible-clause-ok g c =
    let ops = g.M.MemoryModel.ops in
    let model = g.M.MemoryModel.MODEL in
    let bound = g.M.MemoryModel.bound in
    let code = c.args.code.now in
    let log = c.args.log.now.log in
    let best = c.loop-best.best in
    let fewer = best.switches - 1 in
    fewest_found ops model bound code log g.met.M.MemoryModel.laws c.requires.given c.args.budget best.schedule best.switches fewer c.in-Impossible.derivation
    c.loop-best-test.true refl c.loop-best.invariant
    (subst (λ (b : Bool). Solves (switch_clauses b bound code log fewer) c.args.budget (answer.Impossible c.in-Impossible.derivation)) g.met.M.MemoryModel.buffered
    (subst (IsAnswerOn (switch_clauses g.M.MemoryModel.BUFFERED bound code log fewer) c.args.budget (IsBestUpTo ops model code log fewer)) c.in-Impossible.is
    c.in_ok-next.ensures.found))

pub returns-in-Spent-clause-ok : goal.returns-in-Spent-clause-ok
returns-in-Spent-clause-ok g c =
    let ops = g.M.MemoryModel.ops in
    let model = g.M.MemoryModel.MODEL in
    let bound = g.M.MemoryModel.bound in
    let code = c.args.code.now in
    let log = c.args.log.now.log in
    let best = c.loop-best.best in
    let fewer = best.switches - 1 in
    fewer_spent ops model bound code log g.met.M.MemoryModel.laws c.requires.given c.args.budget best.schedule best.switches fewer c.in-Spent.derivation
    c.loop-best-test.true refl c.loop-best.invariant
    (subst (λ (b : Bool). Solves (switch_clauses b bound code log fewer) c.args.budget (answer.Spent c.in-Spent.derivation)) g.met.M.MemoryModel.buffered
    (subst (IsAnswerOn (switch_clauses g.M.MemoryModel.BUFFERED bound code log fewer) c.args.budget (IsBestUpTo ops model code log fewer)) c.in-Spent.is
    c.in_ok-next.ensures.found))

pub returns-clause-ok : goal.returns-clause-ok
returns-clause-ok g c =
    let best = c.loop-best.best in
    none_fewer g.M.MemoryModel.ops g.M.MemoryModel.MODEL g.M.MemoryModel.bound c.args.code.now c.args.log.now.log g.met.M.MemoryModel.laws c.requires.given
    c.args.budget best.schedule best.switches c.loop-best.invariant (omega (arith, c.loop-best-test.false))
