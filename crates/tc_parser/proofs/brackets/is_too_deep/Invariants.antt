use Rattle.tc_parser.proofs.Tokens.{AreNestedBefore}
use Rattle.tc_parser.proofs.brackets.is_too_deep.Given as goal

-- the depth is that after the tokens so far, and the limit holds for them
abbrev pub invariant-loop-token : goal.invariant-loop-token
invariant-loop-token l = AreNestedBefore l.tokens l.token-index l.depth
