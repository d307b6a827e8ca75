use Rattle.tc_parser.proofs.Tokens.{deep_here}
use Rattle.tc_parser.proofs.brackets.is_too_deep.Goals as goal

pub returns-then-depth-gt-BRACKETS : goal.returns-then-depth-gt-BRACKETS
returns-then-depth-gt-BRACKETS c =
    deep_here c.args.tokens.now c.loop-token.token-index c.loop-token.depth c.open_after-depth.result _ c.loop-token.invariant c.loop-token-test.true
    c.open_after-depth.ensures c.if-depth-gt-BRACKETS.true
