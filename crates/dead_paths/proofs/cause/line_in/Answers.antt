use Rattle.dead_paths.proofs.Finding.{followed_none}
use Rattle.dead_paths.proofs.cause.line_in.Goals as goal

pub loop-step-init : goal.loop-step-init
loop-step-init c = followed_none c.args.code.now c.args.function c.args.fails c.args.places.now c.in_ok-own.own c.in_ok-own.ensures
