use Rattle.tc_syntax.proofs.Chains.{one_more_local}
use Rattle.tc_syntax.proofs.programs.read_locals.Goals as goal

pub loop-rest-preserved : goal.loop-rest-preserved
loop-rest-preserved c =
    let h = one_more_local c.args.words.now c.loop-rest.found.items c.loop-rest.rest.now c.in_ok-local.local c.in_ok-local.after.now
    c.loop-rest.invariant c.in_ok-local.ensures in
    rw (c.in_ok-push.ensures.items) h
