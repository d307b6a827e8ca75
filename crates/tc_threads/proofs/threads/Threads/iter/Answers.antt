use Rattle.std.proofs.Common.{sym, ap, ◌∙◌}
use Rattle.std.specs.FinMap as map
use Rattle.tc_threads.proofs.ByName.{entries-map_of, all_there}
use Rattle.tc_threads.proofs.threads.Threads.iter.Goals as goal

pub returns-clause-rest : goal.returns-clause-rest
returns-clause-rest g c =
    c.iter.ensures.rest ∙ sym (entries-map_of c.self.inside.by_name.entries c.self.invariant.1) ∙ ap map.entries c.self.view_is

pub returns-clause-found : goal.returns-clause-found
returns-clause-found g c =
    rw c.iter.ensures.rest (all_there c.self.inside.by_name.entries c.args.self.now c.self.view_is c.iter.ensures.found)
