use Rattle.tc_syntax.proofs.Chains.{one_more_global}
use Rattle.tc_syntax.proofs.programs.read_globals.Goals as goal

pub loop-rest-preserved : goal.loop-rest-preserved
loop-rest-preserved c =
    let h = one_more_global c.args.words.now c.loop-rest.found.items c.loop-rest.rest.now c.in_ok-global.global c.in_ok-global.after.now
    c.loop-rest.invariant c.in_ok-global.ensures in
    rw (c.in_ok-push.ensures.items) h
