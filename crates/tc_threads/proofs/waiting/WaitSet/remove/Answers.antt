use Rattle.tc_threads.proofs.NameSets.{set_of_remove}
use Rattle.tc_threads.proofs.waiting.WaitSet.remove.Goals as goal

pub returns : goal.returns
returns c = set_of_remove c.self.inside.names.keys c.remove.new.self.keys c.args.self.now c.args.name.now c.self.view_is c.remove.ensures.updates.0
