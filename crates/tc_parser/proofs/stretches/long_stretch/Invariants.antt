use Rattle.tc_parser.proofs.LongStretches.{IsLeft}
use Rattle.tc_parser.proofs.stretches.long_stretch.Given as goal

-- the first long stretch is the first one of the remaining tokens
abbrev pub invariant-loop-token : goal.invariant-loop-token
invariant-loop-token l = IsLeft l.tokens l.token-index l.len
