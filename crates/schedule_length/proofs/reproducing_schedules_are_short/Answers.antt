use Rattle.schedule_length.proofs.Laws.{short, room}
use Rattle.schedule_length.proofs.reproducing_schedules_are_short.Goals as goal

pub returns-clause-short : goal.returns-clause-short
returns-clause-short g c = short

pub returns-clause-room : goal.returns-clause-room
returns-clause-room g c = room
