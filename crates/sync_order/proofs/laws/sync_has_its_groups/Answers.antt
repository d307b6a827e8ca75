use Rattle.std.proofs.Common.{◌≡◌, true}
use Rattle.std.proofs.lemmas.List.Elements.{All-contains}
use Rattle.sync_order.specs.Sync.{is_sync, sync_formula}
use Rattle.sync_order.proofs.Whole.{groups}
use Rattle.sync_order.proofs.laws.sync_has_its_groups.Goals as goal

pub returns : goal.returns
returns c paths z i = All-contains (λ y. is_sync y.group ≡ true) (sync_formula paths) z (groups paths) i
