use Rattle.clap_debug_cli.proofs.Accepted.{schedule_accepted}
use Rattle.clap_debug_cli.proofs.schedules_are_accepted.Goals as goal

pub returns : goal.returns
returns c = λ program log task asked moves text r is. schedule_accepted task asked moves text r is
