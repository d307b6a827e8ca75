use Rattle.std.proofs.Common.{subst₂}
use Rattle.log_tasks.specs.Tasks.{Task}
use Rattle.cnf_command.specs.helpers.Asked.{IsExported}
use Rattle.cnf_command.proofs.command.CnfWork.work.Goals as goal

pub returns-in-Ok : goal.returns-in-Ok
returns-in-Ok c =
    subst₂ (λ program log. (t : Task program log) × IsExported c.args.self.now.model t c.in-Ok.exported) c.deref.ensures.value
    c.deref-2.ensures.value c.in-Ok.ensures.clauses
