use Rattle.std.proofs.Common.{◌≡◌, ◌∙◌, sym, rules, w32}
use Rattle.std.proofs.lemmas.Int.{to_z-of_z}
use Rattle.tc_machine.proofs.Can.{can_ask}
use Rattle.show_rows.proofs.Deeds.{reached, run_gives}
use Rattle.show_rows.proofs.telling.Telling.run.Goals as goal

pub request-asks-requires : goal.request-asks-requires
request-asks-requires g c = (
  c.args.code.now,
  can_ask g.M.MemoryModel.ops c.args.code.now c.args.state.now c.args.name.now c.in-Some.thread.now c.in-Some-instr.instr.now
      c.in-Some-instr.ensures.lawful
      (reached g.M.MemoryModel.ops _ _ g.met.M.MemoryModel.laws c.args.code.now c.args.state.now c.args.self.now c.requires.so_far)
      (sym c.in-Some.ensures) (sym c.in-Some-instr.ensures.next),
)

pub returns : goal.returns
returns g c =
    run_gives g.M.MemoryModel.ops _ _ g.met.M.MemoryModel.laws c.args.code.now c.args.state.now c.args.self.now c.requires.so_far c.args.name.now
    c.in-Some.thread.now c.in-Some-instr.instr.now (sym c.in-Some.ensures) (sym c.in-Some-instr.ensures.next)
    _ _ _ _ _ (search rules) (search rules) c.request-asks.ensures (to_z-of_z w32 c.taken.result (search rules) ∙ c.taken.ensures)
    (c.in_ok-created.ensures c.args.code.now)
