use Rattle.store_buffers.proofs.Oldest.{oldest}
use Rattle.store_buffers.proofs.laws.oldest_drains.Goals as goal

pub returns : goal.returns
returns g c = oldest
