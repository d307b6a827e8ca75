use Rattle.record_command.proofs.Laws.{recorded_possible}
use Rattle.record_command.proofs.recorded_logs_are_possible.Goals as goal

pub returns : goal.returns
returns c = recorded_possible
