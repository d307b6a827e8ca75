use Rattle.tc_lexer.proofs.Longest.{is_longest}
use Rattle.tc_lexer.proofs.laws.pieces_are_longest.Goals as goal

pub returns : goal.returns
returns c = is_longest
