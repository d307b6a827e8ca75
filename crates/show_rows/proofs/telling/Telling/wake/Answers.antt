use Rattle.std.proofs.Common.{sym}
use Rattle.tc_machine.proofs.Can.{can_ask}
use Rattle.show_rows.proofs.Deeds.{reached}
use Rattle.show_rows.proofs.telling.Telling.wake.Goals as goal

pub request-requires : goal.request-requires
request-requires g c = (
  c.args.code.now,
  can_ask g.M.MemoryModel.ops c.args.code.now c.args.state.now c.args.name.now c.in-Some.thread.now c.in-Some-instr.instr.now
      c.in-Some-instr.ensures.lawful
      (reached g.M.MemoryModel.ops _ _ g.met.M.MemoryModel.laws c.args.code.now c.args.state.now c.args.self.now c.requires.so_far)
      (sym c.in-Some.ensures) (sym c.in-Some-instr.ensures.next),
)
