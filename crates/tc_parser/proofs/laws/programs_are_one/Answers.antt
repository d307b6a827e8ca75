use Rattle.tc_parser.proofs.OneFault.{one_text_program}
use Rattle.tc_parser.proofs.laws.programs_are_one.Goals as goal

pub returns : goal.returns
returns c = one_text_program
