use Rattle.tc_lexer.proofs.OneReading.{are_spans}
use Rattle.tc_lexer.proofs.laws.tokens_are_spans.Goals as goal

pub returns : goal.returns
returns c = are_spans
