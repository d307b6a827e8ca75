use Rattle.bit_order.proofs.Meaning.{same-world}
use Rattle.bit_order.proofs.laws.first_variables_say_the_world.Goals as goal

pub returns : goal.returns
returns c = same-world
