use Rattle.std.proofs.Common.{rules}
use Rattle.log_tasks.specs.Tasks.{Pair}
use Rattle.log_tasks.proofs.Refused.{foreign, unread}
use Rattle.log_tasks.proofs.reading.read_own.Goals as goal

pub returns-in_err-code-clause-refused : goal.returns-in_err-code-clause-refused
returns-in_err-code-clause-refused c =
    let why = unread c.args.program.now c.args.log.now c.in_err-code.field-0.0 c.in_err-code.ensures.refused in
    search rules

pub returns-in_err-refuse_other-clause-refused : goal.returns-in_err-refuse_other-clause-refused
returns-in_err-refuse_other-clause-refused c =
    let pair : Pair c.args.program.now c.args.log.now =
    record { code = c.in_ok-code.code; run = c.in_ok-code.log; programs = c.in_ok-code.ensures.code; logs = c.in_ok-code.ensures.log } in
    let why = foreign pair c.in_err-refuse_other.field-0.0 c.in_err-refuse_other.ensures.other in
    search rules
