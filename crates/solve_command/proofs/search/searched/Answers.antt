use Rattle.std.proofs.Common.{◌∙◌, ap, subst, unwrap_or, IfOk}
use Rattle.log_tasks.specs.Tasks.{Pair, model_of}
use Rattle.log_tasks.proofs.Refused.{searched, unsearched}
use Rattle.solve_command.specs.Meanings.{IsFound}
use Rattle.solve_command.specs.Calls.{plain_solve}
use Rattle.solve_command.proofs.search.searched.Goals as goal

pub returns-clause-solution : goal.returns-clause-solution
returns-clause-solution c =
    let call = plain_solve c.args.solve.now in
    let pair : Pair c.args.program.now c.args.log.now =
    record { code = c.in_ok-code.code; run = c.in_ok-code.log; programs = c.in_ok-code.ensures.code; logs = c.in_ok-code.ensures.log } in
    let same = c.unwrap_or-model.ensures ∙ ap (unwrap_or call.asked.model) c.model.ensures in
    let found = subst (λ m. IfOk c.search-found.result (IsFound call.budget pair.code pair.run.log m)) same c.search-found.ensures.found in
    searched pair c.in_ok-code.ensures.own (λ p x. IsFound call.budget p.code p.run.log (model_of call.asked.model p) x) c.search-found.result found
    c.search-found.ensures.within

pub returns-clause-refused : goal.returns-clause-refused
returns-clause-refused c =
    let pair : Pair c.args.program.now c.args.log.now =
    record { code = c.in_ok-code.code; run = c.in_ok-code.log; programs = c.in_ok-code.ensures.code; logs = c.in_ok-code.ensures.log } in
    unsearched pair c.in_ok-code.ensures.own c.search-found.result c.search-found.ensures.refused
