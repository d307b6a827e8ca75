use Rattle.clap_solve.specs.Solved.{IsImpossible}
use Rattle.find_failures.proofs.Tried.{tried_refuted, tried_unfit, tried_unknown}
use Rattle.find_failures.proofs.gone.Gone.try_log.Goals as goal

pub returns-in_ok-add-in-Impossible : goal.returns-in_ok-add-in-Impossible
returns-in_ok-add-in-Impossible g c =
    let is = rw c.in-Impossible.is at c.in_ok-decide.ensures in
    tried_refuted g.M.MemoryModel.ops g.M.MemoryModel.MODEL g.M.MemoryModel.bound c.args.code.now c.args.asked c.args.self.now _
    (record { log = c.args.log; derivation = c.in-Impossible.derivation })
    (IsImpossible g.M.MemoryModel.ops c.args.code.now c.args.log.log)
    c.requires.gone c.in_ok-add-in-Impossible.ensures.unknown c.in_ok-add-in-Impossible.ensures.refuted
    (record { within = is.0; closed = is.1 })
    is.2

pub returns-in-Unfit : goal.returns-in-Unfit
returns-in-Unfit g c =
    tried_unfit g.M.MemoryModel.ops g.M.MemoryModel.MODEL g.M.MemoryModel.bound c.args.code.now c.args.asked _
    (IsImpossible g.M.MemoryModel.ops c.args.code.now c.args.log.log)
    c.requires.gone (rw c.in-Unfit.is at c.in_ok-decide.ensures)

pub returns-in-Unknown : goal.returns-in-Unknown
returns-in-Unknown g c =
    let is = rw c.in-Unknown.is at c.in_ok-decide.ensures in
    tried_unknown g.M.MemoryModel.ops g.M.MemoryModel.MODEL g.M.MemoryModel.bound c.args.code.now c.args.asked c.args.self.now _
    (record { log = c.args.log; reason = c.in-Unknown.reason })
    (IsImpossible g.M.MemoryModel.ops c.args.code.now c.args.log.log)
    c.requires.gone c.leave.ensures.unknown c.leave.ensures.refuted
    (λ none. record { needed = c.requires.needed; first = c.requires.reached none; reason = is })
