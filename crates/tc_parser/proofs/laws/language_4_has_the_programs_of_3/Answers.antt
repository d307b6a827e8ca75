use Rattle.tc_parser.proofs.NextLanguage.{programs_3_to_4, programs_4_to_3, old_words, faults_3_to_4}
use Rattle.tc_parser.proofs.laws.language_4_has_the_programs_of_3.Goals as goal

pub returns-clause-programs : goal.returns-clause-programs
returns-clause-programs c = λ text program. (
  λ is. (programs_3_to_4 text program is, old_words text program is),
  λ both. programs_4_to_3 text program both.0 both.1,
)

pub returns-clause-faults : goal.returns-clause-faults
returns-clause-faults c = faults_3_to_4
