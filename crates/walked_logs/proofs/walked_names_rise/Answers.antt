use Rattle.walked_logs.proofs.Rising.{names_rise, names_some}
use Rattle.walked_logs.proofs.walked_names_rise.Goals as goal

pub returns-clause-rise : goal.returns-clause-rise
returns-clause-rise c = λ code kind threads made. names_rise code kind threads made

pub returns-clause-some : goal.returns-clause-some
returns-clause-some c = λ code kind threads made. names_some code kind threads made
