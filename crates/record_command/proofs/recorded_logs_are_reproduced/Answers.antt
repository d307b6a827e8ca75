use Rattle.record_command.proofs.Laws.{recorded_reproduced}
use Rattle.record_command.proofs.recorded_logs_are_reproduced.Goals as goal

pub returns : goal.returns
returns c = recorded_reproduced
