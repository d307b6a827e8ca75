use Rattle.schedule_file.proofs.Schedules.{one_schedule}
use Rattle.schedule_file.proofs.laws.schedules_are_one.Goals as goal

pub returns : goal.returns
returns c = one_schedule
