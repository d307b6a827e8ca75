use Rattle.std.proofs.Common.{sym, ◌∙◌}
use Rattle.tc_threads.proofs.ByName.{get_of_entries}
use Rattle.tc_threads.proofs.threads.Threads.get.Goals as goal

pub returns : goal.returns
returns g c = c.get.ensures.value ∙ sym (get_of_entries _ _ c.args.name.now c.self.view_is)
