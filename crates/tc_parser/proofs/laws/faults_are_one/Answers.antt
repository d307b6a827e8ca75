use Rattle.tc_parser.proofs.OneFault.{program_or_text_fault, one_text_fault, program_or_no_fault}
use Rattle.tc_parser.proofs.laws.faults_are_one.Goals as goal

pub returns-clause-some : goal.returns-clause-some
returns-clause-some c = λ language text least. program_or_text_fault language least text

pub returns-clause-one : goal.returns-clause-one
returns-clause-one c = one_text_fault

pub returns-clause-none : goal.returns-clause-none
returns-clause-none c = program_or_no_fault
