use Rattle.std.proofs.Common.{subst}
use Rattle.tc_code.specs.Step.{request}
use Rattle.tc_machine.specs.helpers.CanDo.{AsksIn}
use Rattle.tc_threads.proofs.run_laws.Asks.{asked_is_there}
use Rattle.tc_machine.proofs.machine.may_wake.Goals as goal

pub waiting_on-requires : goal.waiting_on-requires
waiting_on-requires g c =
    subst (λ i. AsksIn c.args.state.now (request c.args.thread.now.local i)) c.in-Signal.is
    (asked_is_there g.M.MemoryModel.ops c.args.code.now c.args.state.now c.args.name.now c.args.thread.now
    c.in_ok-instr.instr.now c.in_ok-instr.ensures.instr.lawful c.requires.reached c.requires.there c.in_ok-instr.ensures.instr.at)
