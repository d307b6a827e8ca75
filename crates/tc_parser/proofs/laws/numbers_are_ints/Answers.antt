use Rattle.tc_parser.proofs.Words.{has_ints}
use Rattle.tc_parser.proofs.laws.numbers_are_ints.Goals as goal

pub returns : goal.returns
returns c = has_ints
