use Rattle.std.proofs.Common.{rules}
use Rattle.tc_record.proofs.Paths.{is_log_there, log_there}
use Rattle.tc_record.proofs.logged.log_of.Goals as goal

pub new-requires : goal.new-requires
new-requires g c =
    is_log_there c.args.state.now c.MODEL.result c.ending.result c.in_ok-threads.threads.items c.requires.there c.ending.ensures c.in_ok-threads.ensures

pub returns : goal.returns
returns g c =
    log_there c.args.state.now g.M.MemoryModel.MODEL _ c.MODEL.result c.ending.result c.in_ok-threads.threads.items c.new.ensures (search rules)
    c.requires.there c.ending.ensures c.in_ok-threads.ensures
