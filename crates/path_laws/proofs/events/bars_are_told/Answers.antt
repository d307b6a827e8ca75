use Rattle.path_laws.proofs.of_events.Lists.{in_contains}
use Rattle.path_laws.proofs.of_events.Bars.{told}
use Rattle.path_laws.proofs.events.bars_are_told.Goals as goal

pub returns : goal.returns
returns g c = λ setting h t x y xi yi. told setting h t x y (in_contains x t.events xi) (in_contains y t.events yi)
