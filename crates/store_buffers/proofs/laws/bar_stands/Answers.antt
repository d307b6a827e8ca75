use Rattle.store_buffers.specs.helpers.Lists.{bar_last}
use Rattle.store_buffers.proofs.laws.bar_stands.Goals as goal

pub returns : goal.returns
returns g c = bar_last
