use Rattle.std.proofs.Common.{not, ap, ◌∙◌}
use Rattle.tc_threads.proofs.NameSets.{contains_of, set_of_insert}
use Rattle.tc_threads.proofs.waiting.WaitSet.insert.Goals as goal

pub returns-clause-added : goal.returns-clause-added
returns-clause-added c = c.in_ok-insert.ensures.added ∙ ap not (contains_of c.self.inside.names.keys c.args.self.now c.args.name c.self.view_is)

pub returns-clause-ok : goal.returns-clause-ok
returns-clause-ok c = set_of_insert c.self.inside.names.keys c.insert.new.self.keys c.args.self.now c.args.name c.self.view_is c.in_ok-insert.ensures.updates.0
