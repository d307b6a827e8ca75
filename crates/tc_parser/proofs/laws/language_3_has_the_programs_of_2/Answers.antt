use Rattle.tc_parser.proofs.NextLanguage.{programs_2_to_3}
use Rattle.tc_parser.proofs.laws.language_3_has_the_programs_of_2.Goals as goal

pub returns : goal.returns
returns c = programs_2_to_3
