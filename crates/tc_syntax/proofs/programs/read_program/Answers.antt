use Rattle.tc_syntax.proofs.Places.{are_of, is_stop}
use Rattle.tc_syntax.proofs.programs.read_program.Goals as goal

pub returns-in-Ok : goal.returns-in-Ok
returns-in-Ok c = record { spelled = c.in-Ok.ensures.0; grouped = c.in-Ok.ensures.1; language_has = are_of c.args.words.now }

pub returns-in-Err : goal.returns-in-Err
returns-in-Err c = is_stop c.args.words.now c.in-Err.stop c.in-Err.ensures
