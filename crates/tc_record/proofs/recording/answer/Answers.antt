use Rattle.tc_record.proofs.Reached.{has_threads}
use Rattle.tc_record.proofs.recording.answer.Goals as goal

pub log_of-requires-clause-there : goal.log_of-requires-clause-there
log_of-requires-clause-there g c =
    has_threads g.M.MemoryModel.ops c.args.code.now c.args.state.now (record { moves = c.args.made.items; leads = c.requires.leads })

pub log_of-requires-in-Deadlock-clause-there : goal.log_of-requires-in-Deadlock-clause-there
log_of-requires-in-Deadlock-clause-there g c =
    has_threads g.M.MemoryModel.ops c.args.code.now c.args.state.now (record { moves = c.args.made.items; leads = c.requires.leads })
