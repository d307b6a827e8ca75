use Rattle.std.proofs.Common.{Bool, subst}
use Rattle.cdcl_core.specs.Solving.{IsAnswerOn, Solves}
use Rattle.cdcl_core.specs.declared.answer.Answer.TheVariants as answer
use Rattle.clap_solve.specs.Clauses.{clauses_of}
use Rattle.least_switch.specs.helpers.Found.{IsBest}
use Rattle.least_switch.proofs.Told.{all_spent, none_found}
use Rattle.least_switch.proofs.searching.least.Goals as goal

pub fewest-requires-clause-best : goal.fewest-requires-clause-best
fewest-requires-clause-best g c =
    let code = c.args.code.now in
    let log = c.args.log.now.log in
    subst (IsAnswerOn (clauses_of g.M.MemoryModel.BUFFERED g.M.MemoryModel.bound code log) c.args.budget
    (IsBest g.M.MemoryModel.ops g.M.MemoryModel.MODEL code log)) c.in-Found.is c.in_ok-best.ensures.found.found

pub returns-in-Impossible-clause-ok : goal.returns-in-Impossible-clause-ok
returns-in-Impossible-clause-ok g c =
    let bound = g.M.MemoryModel.bound in
    let code = c.args.code.now in
    let log = c.args.log.now.log in
    none_found g.M.MemoryModel.ops g.M.MemoryModel.MODEL bound code log g.met.M.MemoryModel.laws c.in_ok-best.ensures.found.given c.args.budget
    c.in-Impossible.derivation
    (subst (λ (b : Bool). Solves (clauses_of b bound code log) c.args.budget (answer.Impossible c.in-Impossible.derivation)) g.met.M.MemoryModel.buffered
    (subst (IsAnswerOn (clauses_of g.M.MemoryModel.BUFFERED bound code log) c.args.budget (IsBest g.M.MemoryModel.ops g.M.MemoryModel.MODEL code log))
    c.in-Impossible.is c.in_ok-best.ensures.found.found))

pub returns-in-Spent-clause-ok : goal.returns-in-Spent-clause-ok
returns-in-Spent-clause-ok g c =
    let bound = g.M.MemoryModel.bound in
    let code = c.args.code.now in
    let log = c.args.log.now.log in
    all_spent g.M.MemoryModel.ops g.M.MemoryModel.MODEL bound code log g.met.M.MemoryModel.laws c.in_ok-best.ensures.found.given c.args.budget c.in-Spent.derivation
    (subst (λ (b : Bool). Solves (clauses_of b bound code log) c.args.budget (answer.Spent c.in-Spent.derivation)) g.met.M.MemoryModel.buffered
    (subst (IsAnswerOn (clauses_of g.M.MemoryModel.BUFFERED bound code log) c.args.budget (IsBest g.M.MemoryModel.ops g.M.MemoryModel.MODEL code log))
    c.in-Spent.is c.in_ok-best.ensures.found.found))
