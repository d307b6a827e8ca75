use Rattle.tc_syntax.proofs.Chains.{one_more_parameter}
use Rattle.tc_syntax.proofs.programs.read_parameters.Goals as goal

pub loop-start-preserved : goal.loop-start-preserved
loop-start-preserved c =
    let h = one_more_parameter c.args.words.now c.loop-start.found.items c.loop-start.rest.now c.in-Ok-past.start.now c.in_ok-start.start.now
    c.in_ok-name.name c.in_ok-name.after.now c.loop-start.invariant c.in-Ok-past.ensures.0 c.in_ok-start.ensures.0 c.in_ok-name.ensures.0 in
    rw (c.in_ok-push-2.ensures.items) h
