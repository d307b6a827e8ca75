use Rattle.pure_turns.proofs.Out.{comes_out, stays_stuck}
use Rattle.pure_turns.proofs.pure_turns_come_out.Goals as goal

pub returns-clause-run : goal.returns-clause-run
returns-clause-run g c = λ ops code live n older turn newer s w lawful closed before pure leads.
    comes_out ops code lawful live closed n older turn newer s w before pure leads

pub returns-clause-deadlock : goal.returns-clause-deadlock
returns-clause-deadlock g c = λ ops code live n v w closed reached same stuck. stays_stuck ops code live closed n v w reached same stuck
