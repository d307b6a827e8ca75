use Rattle.tc_grammar.proofs.Faults.{program_or_fault, program_or_fault_last, one_syntax_fault}
use Rattle.tc_grammar.proofs.laws.words_have_one_fault.Goals as goal

pub returns-clause-some : goal.returns-clause-some
returns-clause-some c = program_or_fault_last

pub returns-clause-earlier : goal.returns-clause-earlier
returns-clause-earlier c = λ language words least all. program_or_fault language least words all

pub returns-clause-one : goal.returns-clause-one
returns-clause-one c = one_syntax_fault

pub returns-clause-none : goal.returns-clause-none
returns-clause-none c = λ language words k program x y. x.none program y
