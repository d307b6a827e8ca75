use Rattle.tc_lexer.proofs.NextLanguage.{from_1_to_2}
use Rattle.tc_lexer.proofs.laws.language_2_has_the_tokens_of_1.Goals as goal

pub returns : goal.returns
returns c = from_1_to_2
