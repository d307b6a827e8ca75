use Rattle.tc_base.specs.declared.moves.Move.TheVariants.{Drain}
use Rattle.tc_machine.proofs.Reasons.{enabled_while_running}
use Rattle.tc_machine.proofs.Within.{drains_within_memory}
use Rattle.tc_machine.proofs.machine.drain.Goals as goal

pub drain-requires-clause-within : goal.drain-requires-clause-within
drain-requires-clause-within g c =
    let enabled =
    enabled_while_running g.M.MemoryModel.ops c.args.code.now c.args.state.now (Drain c.args.name.now c.args.form) c.requires.running
    c.in_ok-may_drain.ensures in
    drains_within_memory g.M.MemoryModel.ops _ _ g.met.M.MemoryModel.laws c.args.code.now c.recall_lawful.ensures c.args.state.now c.requires.reached
    c.args.name.now c.args.form enabled
