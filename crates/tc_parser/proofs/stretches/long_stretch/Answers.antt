use Rattle.tc_parser.proofs.LongStretches.{all_left}
use Rattle.tc_parser.proofs.stretches.long_stretch.Goals as goal

pub loop-token-init : goal.loop-token-init
loop-token-init c = all_left c.args.tokens.now
