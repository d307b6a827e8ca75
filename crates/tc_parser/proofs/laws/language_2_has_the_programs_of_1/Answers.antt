use Rattle.tc_parser.proofs.NextLanguage.{programs_1_to_2}
use Rattle.tc_parser.proofs.laws.language_2_has_the_programs_of_1.Goals as goal

pub returns : goal.returns
returns c = programs_1_to_2
