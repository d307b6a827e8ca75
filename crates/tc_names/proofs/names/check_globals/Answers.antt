use Rattle.tc_names.proofs.Walks.{globals_on}
use Rattle.tc_names.proofs.names.check_globals.Goals as goal

pub loop-rest-preserved : goal.loop-rest-preserved
loop-rest-preserved c = globals_on c.args.source.now c.args.all.now c.args.globals.now c.loop-rest.count c.loop-rest.rest.now _ c.loop-rest.invariant
    c.in-len1-up.len_at_least c.in_ok-check_global.ensures
