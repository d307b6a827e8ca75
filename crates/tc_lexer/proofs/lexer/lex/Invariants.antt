use Rattle.std.proofs.Common.{length, ◌-◌}
use Rattle.tc_lexer.proofs.Readings.{IsRead}
use Rattle.tc_lexer.proofs.lexer.lex.Given as goal

abbrev pub invariant-loop-start : goal.invariant-loop-start
invariant-loop-start l = IsRead 4 l.text l.tokens.items l.start l.place

abbrev pub decreases-loop-start : goal.decreases-loop-start
decreases-loop-start l = length l.text - l.start
