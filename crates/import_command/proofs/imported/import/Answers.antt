use Rattle.std.proofs.Common.{◌∙◌, ap, rules, unwrap_or}
use Rattle.log_tasks.specs.Tasks.{Pair}
use Rattle.import_command.proofs.Untaken.{foreign, imported, unanswered, unbuilt, unread_both}
use Rattle.import_command.proofs.imported.import.Goals as goal

pub returns-clause-made : goal.returns-clause-made
returns-clause-made c =
    let pair : Pair c.args.program.now c.args.log.now =
    record { code = c.in_ok-code.code; run = c.in_ok-code.log; programs = c.in_ok-code.ensures.code; logs = c.in_ok-code.ensures.log } in
    imported c.args.program.now c.args.log.now c.args.answer.now pair c.in_ok-literals.literals c.in_ok-literals.ensures.literals c.args.model c.unwrap_or-model.result c.in_ok-refuse_other.ensures.same
    (c.unwrap_or-model.ensures ∙ ap (unwrap_or c.args.model) c.model.ensures) c.import_under-imported.result c.import_under-imported.ensures.taken
    c.import_under-imported.ensures.text c.import_under-imported.ensures.within

pub returns-clause-refused : goal.returns-clause-refused
returns-clause-refused c =
    let pair : Pair c.args.program.now c.args.log.now =
    record { code = c.in_ok-code.code; run = c.in_ok-code.log; programs = c.in_ok-code.ensures.code; logs = c.in_ok-code.ensures.log } in
    unbuilt c.args.program.now c.args.log.now c.args.answer.now pair c.in_ok-literals.literals c.in_ok-literals.ensures.literals c.in_ok-refuse_other.ensures.same c.import_under-imported.result
    c.import_under-imported.ensures.refused

pub returns-in_err-code-clause-refused : goal.returns-in_err-code-clause-refused
returns-in_err-code-clause-refused c =
    let why = unread_both c.args.program.now c.args.log.now c.args.answer.now c.in_err-code.field-0.0 c.in_err-code.ensures.refused in
    search rules

pub returns-in_err-literals-clause-refused : goal.returns-in_err-literals-clause-refused
returns-in_err-literals-clause-refused c =
    let pair : Pair c.args.program.now c.args.log.now =
    record { code = c.in_ok-code.code; run = c.in_ok-code.log; programs = c.in_ok-code.ensures.code; logs = c.in_ok-code.ensures.log } in
    let why = unanswered c.args.program.now c.args.log.now c.args.answer.now pair c.in_err-literals.field-0.0 c.in_err-literals.ensures.refused in
    search rules

pub returns-in_err-refuse_other-clause-refused : goal.returns-in_err-refuse_other-clause-refused
returns-in_err-refuse_other-clause-refused c =
    let pair : Pair c.args.program.now c.args.log.now =
    record { code = c.in_ok-code.code; run = c.in_ok-code.log; programs = c.in_ok-code.ensures.code; logs = c.in_ok-code.ensures.log } in
    let why = foreign c.args.program.now c.args.log.now c.args.answer.now pair c.in_ok-literals.literals c.in_ok-literals.ensures.literals
    c.in_err-refuse_other.field-0.0 c.in_err-refuse_other.ensures.other in
    search rules
