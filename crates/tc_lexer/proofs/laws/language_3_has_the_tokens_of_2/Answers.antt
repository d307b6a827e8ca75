use Rattle.tc_lexer.proofs.NextLanguage.{from_2_to_3}
use Rattle.tc_lexer.proofs.laws.language_3_has_the_tokens_of_2.Goals as goal

pub returns : goal.returns
returns c = from_2_to_3
