use Rattle.bit_order.proofs.Meaning.{worlds-have-values}
use Rattle.bit_order.proofs.laws.worlds_have_values.Goals as goal

pub returns : goal.returns
returns c = worlds-have-values
