use Rattle.std.proofs.Common.{sym, ap, ◌∙◌}
use Rattle.std.specs.FinMap as map
use Rattle.tc_threads.proofs.ByName.{keys-map_of}
use Rattle.tc_threads.proofs.threads.Threads.names.Goals as goal

pub returns : goal.returns
returns g c = c.self.invariant.0 ∙ sym (keys-map_of c.self.inside.by_name.entries c.self.invariant.1) ∙ ap map.keys c.self.view_is
