use Rattle.std.proofs.Common.{refl}
use Rattle.slot_liveness.specs.Tables.{liveness}
use Rattle.certified_logs.proofs.Places.{first_at}
use Rattle.certified_logs.proofs.place.Place.first.Goals as goal

pub returns : goal.returns
returns c = λ code header closed. record { closed = closed; reached = first_at code (liveness c.args.live) header _ refl refl }
