use Rattle.tc_record.proofs.Ended.{run_is_told, run_reproduces}
use Rattle.tc_record.proofs.laws.ended_runs_reproduce_logs.Goals as goal

pub returns-clause-reproduced : goal.returns-clause-reproduced
returns-clause-reproduced g c = λ ops model bound code seed steps log laws lawful has is.
    run_reproduces ops model bound laws code lawful seed steps log has is

pub returns-clause-told : goal.returns-clause-told
returns-clause-told g c = λ ops model bound code seed steps log laws lawful has is. run_is_told ops model bound laws code lawful seed steps log has is
