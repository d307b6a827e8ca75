use Rattle.std.proofs.Common.{refl}
use Rattle.store_buffers.proofs.laws.empty_stands.Goals as goal

pub returns : goal.returns
returns g c = λ ops. record { made = refl; issued = λ _. refl }
