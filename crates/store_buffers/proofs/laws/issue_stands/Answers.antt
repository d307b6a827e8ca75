use Rattle.store_buffers.specs.helpers.Lists.{store_last}
use Rattle.store_buffers.proofs.laws.issue_stands.Goals as goal

pub returns : goal.returns
returns g c = store_last
