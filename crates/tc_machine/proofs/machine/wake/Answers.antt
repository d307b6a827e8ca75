use Rattle.std.proofs.Common.{subst, sym, IfSome}
use Rattle.tc_code.specs.Code.{Code}
use Rattle.tc_code.specs.Step.{request}
use Rattle.tc_threads.specs.CanDo.{CanDo}
use Rattle.tc_machine.specs.helpers.CanDo.{AsksIn}
use Rattle.tc_threads.proofs.run_laws.Asks.{asked_is_there}
use Rattle.tc_machine.proofs.Can.{can_do}
use Rattle.tc_machine.proofs.machine.wake.Goals as goal

pub wake-requires-clause-can : goal.wake-requires-clause-can
wake-requires-clause-can g c =
    let does = c.in_ok-instr.ensures.signal.0 in
    subst (λ o. IfSome o (λ t. (code : Code) × CanDo code t.local c.in_ok-instr.instr.now)) (sym c.in_ok-find.ensures.thread) (
      c.args.code.now,
      can_do g.M.MemoryModel.ops c.args.code.now c.args.state.now c.args.name.now c.in_ok-find.field-0.now
          c.in_ok-instr.instr.now does.lawful c.requires.reached c.in_ok-find.ensures.thread does.at c.requires.counters does.room,
    )

pub wake-requires-clause-there : goal.wake-requires-clause-there
wake-requires-clause-there g c =
    let does = c.in_ok-instr.ensures.signal.0 in
    subst (λ i. AsksIn c.args.state.now (request c.in_ok-find.field-0.now.local i)) c.in_ok-instr.ensures.signal.1
    (asked_is_there g.M.MemoryModel.ops c.args.code.now c.args.state.now c.args.name.now c.in_ok-find.field-0.now
    c.in_ok-instr.instr.now does.lawful c.requires.reached c.in_ok-find.ensures.thread does.at)
