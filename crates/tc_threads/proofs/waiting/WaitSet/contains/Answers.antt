use Rattle.std.proofs.Common.{◌∙◌}
use Rattle.tc_threads.proofs.NameSets.{contains_of}
use Rattle.tc_threads.proofs.waiting.WaitSet.contains.Goals as goal

pub returns : goal.returns
returns c = c.contains.ensures ∙ contains_of c.self.inside.names.keys c.args.self.now c.args.name.now c.self.view_is
