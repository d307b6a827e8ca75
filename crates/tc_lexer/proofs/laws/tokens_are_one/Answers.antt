use Rattle.tc_lexer.proofs.OneReading.{one_tokens}
use Rattle.tc_lexer.proofs.laws.tokens_are_one.Goals as goal

pub returns : goal.returns
returns c = one_tokens
