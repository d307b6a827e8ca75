use Rattle.std.proofs.Common.{subst, sym}
use Rattle.tc_machine.specs.helpers.CanDo.{AsksIn}
use Rattle.tc_threads.proofs.run_laws.Asks.{asked_is_there}
use Rattle.tc_machine.proofs.Can.{can_ask}
use Rattle.tc_machine.proofs.machine.may_run.Goals as goal

pub request-request-requires : goal.request-request-requires
request-request-requires g c = (
  c.args.code.now,
  can_ask g.M.MemoryModel.ops c.args.code.now c.args.state.now c.args.name.now c.args.thread.now
      c.in_ok-instr.instr.now c.in_ok-instr.ensures.instr.lawful c.requires.reached c.requires.there c.in_ok-instr.ensures.instr.at,
)

pub lets-requires : goal.lets-requires
lets-requires g c =
    subst (AsksIn c.args.state.now) (sym c.request-request.ensures)
    (asked_is_there g.M.MemoryModel.ops c.args.code.now c.args.state.now c.args.name.now c.args.thread.now
    c.in_ok-instr.instr.now c.in_ok-instr.ensures.instr.lawful c.requires.reached c.requires.there c.in_ok-instr.ensures.instr.at)
