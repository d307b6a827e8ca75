use Rattle.clap_solve.proofs.formula_sizes.Whole.{events_few, few_sleeps, executed_small}
use Rattle.clap_solve.proofs.formula_sizes.logs_are_small.Goals as goal

pub returns : goal.returns
returns c = record {
  events = λ code log is. events_few code log is;
  sleeps = λ code log is. few_sleeps code log is;
  executed = λ code log is. executed_small code log is;
}
