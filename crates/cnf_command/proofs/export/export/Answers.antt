use Rattle.std.proofs.Common.{◌∙◌, ap, subst, unwrap_or, IfOk}
use Rattle.log_tasks.specs.Tasks.{Pair}
use Rattle.log_tasks.proofs.Refused.{searched, unsearched}
use Rattle.cnf_command.specs.Meanings.{AreClauses}
use Rattle.cnf_command.proofs.export.export.Goals as goal

pub returns-clause-clauses : goal.returns-clause-clauses
returns-clause-clauses c =
    let pair : Pair c.args.program.now c.args.log.now =
    record { code = c.in_ok-code.code; run = c.in_ok-code.log; programs = c.in_ok-code.ensures.code; logs = c.in_ok-code.ensures.log } in
    let meant = c.unwrap_or-model.ensures ∙ ap (unwrap_or c.args.model) c.model.ensures in
    searched pair c.in_ok-code.ensures.own (λ p x. AreClauses p.code p.run.log (unwrap_or c.args.model p.run.log.model) x) c.export_under-exported.result
    (subst (λ m. IfOk c.export_under-exported.result (AreClauses pair.code pair.run.log m)) meant c.export_under-exported.ensures.clauses) c.export_under-exported.ensures.within

pub returns-clause-refused : goal.returns-clause-refused
returns-clause-refused c =
    let pair : Pair c.args.program.now c.args.log.now =
    record { code = c.in_ok-code.code; run = c.in_ok-code.log; programs = c.in_ok-code.ensures.code; logs = c.in_ok-code.ensures.log } in
    unsearched pair c.in_ok-code.ensures.own c.export_under-exported.result c.export_under-exported.ensures.refused
