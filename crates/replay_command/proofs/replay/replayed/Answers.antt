use Rattle.std.proofs.Common.{rules}
use Rattle.replay_command.proofs.Refused.{foreign, unread_both, unread_schedule}
use Rattle.replay_command.proofs.replay.replayed.Goals as goal

pub returns-clause-verdict : goal.returns-clause-verdict
returns-clause-verdict c = record {
  files = record {
    pair = record {
      code = c.in_ok-code.code;
      run = c.in_ok-code.log;
      programs = c.in_ok-code.ensures.code;
      logs = c.in_ok-code.ensures.log;
    };
    plan = record { model = c.in_ok-schedule.schedule.model; moves = c.in_ok-schedule.schedule.moves.items };
    schedules = record { have_text = c.in_ok-schedule.schedule.has_text; text = c.in_ok-schedule.ensures.found };
  };
  own = c.in_ok-refuse_other.ensures.same;
  verdict = c.in_ok-verdict.ensures;
}

pub returns-in_err-code-clause-refused : goal.returns-in_err-code-clause-refused
returns-in_err-code-clause-refused c =
    let why = unread_both c.args.program.now c.args.log.now c.args.schedule.now c.in_err-code.field-0.0 c.in_err-code.ensures.refused in
    search rules

pub returns-in_err-schedule-clause-refused : goal.returns-in_err-schedule-clause-refused
returns-in_err-schedule-clause-refused c =
    let why = unread_schedule c.args.program.now c.args.log.now c.args.schedule.now c.in_ok-code.code c.in_ok-code.log c.in_ok-code.ensures.code
    c.in_ok-code.ensures.log c.in_err-schedule.field-0.0 c.in_err-schedule.ensures.refused in
    search rules

pub returns-in_err-refuse_other-clause-refused : goal.returns-in_err-refuse_other-clause-refused
returns-in_err-refuse_other-clause-refused c =
    let plan = c.in_ok-schedule.schedule in
    let why = foreign c.args.program.now c.args.log.now c.args.schedule.now c.in_ok-code.code c.in_ok-code.log c.in_ok-code.ensures.code
    c.in_ok-code.ensures.log (record { model = plan.model; moves = plan.moves.items })
    (record { have_text = plan.has_text; text = c.in_ok-schedule.ensures.found }) c.in_err-refuse_other.field-0.0 c.in_err-refuse_other.ensures.other in
    search rules
