use Rattle.bit_order.proofs.Meaning.{values-say-worlds}
use Rattle.bit_order.proofs.laws.values_say_worlds.Goals as goal

pub returns : goal.returns
returns c = values-say-worlds
