use Rattle.tc_grammar.proofs.Programs.{one_program}
use Rattle.tc_grammar.proofs.laws.words_are_one_program.Goals as goal

pub returns : goal.returns
returns c = one_program
