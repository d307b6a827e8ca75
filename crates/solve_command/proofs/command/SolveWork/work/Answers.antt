use Rattle.std.proofs.Common.{subst₂}
use Rattle.log_tasks.specs.Tasks.{Task}
use Rattle.solve_command.specs.Calls.{plain_solve}
use Rattle.solve_command.specs.helpers.Asked.{IsSolution}
use Rattle.solve_command.proofs.command.SolveWork.work.Goals as goal

pub returns-in-Ok : goal.returns-in-Ok
returns-in-Ok c =
    let call = plain_solve c.args.self.now in
    subst₂ (λ program log. (t : Task program log) × IsSolution call t c.in-Ok.solution) c.deref.ensures.value c.deref-2.ensures.value
    c.in-Ok.ensures.solution
