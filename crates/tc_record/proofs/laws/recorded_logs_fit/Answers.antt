use Rattle.tc_record.proofs.Sizes.{recorded_size}
use Rattle.tc_record.proofs.laws.recorded_logs_fit.Goals as goal

pub returns : goal.returns
returns c = recorded_size
