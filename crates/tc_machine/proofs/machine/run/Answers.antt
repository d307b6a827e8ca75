use Rattle.std.proofs.Common.{subst, sym}
use Rattle.std.specs.Option.{IsSomeAnd}
use Rattle.tc_machine.specs.helpers.CanDo.{CanPerform}
use Rattle.tc_machine.proofs.Can.{can_perform}
use Rattle.tc_machine.proofs.machine.run.Goals as goal

pub perform-requires : goal.perform-requires
perform-requires g c =
    let does = c.in_ok-instr.ensures.asked.0 in
    let can =
    can_perform g.M.MemoryModel.ops c.args.code.now c.args.state.now c.args.name.now c.in_ok-find.field-0.now
    c.in_ok-instr.instr.now does.lawful c.requires.reached c.in_ok-find.ensures.thread does.at c.requires.counters does.room in
    subst (λ o. IsSomeAnd o (CanPerform c.args.code.now c.args.state.now c.args.name.now c.in_ok-instr.instr.now c.in_ok-instr.request))
    (sym c.in_ok-find.ensures.thread)
    (subst (λ r. CanPerform c.args.code.now c.args.state.now c.args.name.now c.in_ok-instr.instr.now r c.in_ok-find.field-0.now)
    (sym c.in_ok-instr.ensures.asked.1) can)
