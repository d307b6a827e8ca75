use Rattle.std.proofs.Common.{rules, subst}
use Rattle.log_tasks.specs.Tasks.{Pair}
use Rattle.store_buffers.specs.Buffers.{buffer_of}
use Rattle.clap_solve.specs.Clauses.{bound_of}
use Rattle.why_impossible.specs.Explained.{IsExplained}
use Rattle.why_command.proofs.Explaining.{closed_verdict, fault_refused, fault_verdict, open_verdict, other_why, unread_why, unreadable_why}
use Rattle.why_command.proofs.explain.explained.Goals as goal

pub returns-in_err-code-clause-refused : goal.returns-in_err-code-clause-refused
returns-in_err-code-clause-refused c =
    let why = unread_why c.args.program.now c.args.log.now c.args.refutation.now c.in_err-code.field-0.0 c.in_err-code.ensures.refused in
    search rules

pub returns-in_err-model-clause-refused : goal.returns-in_err-model-clause-refused
returns-in_err-model-clause-refused c =
    let pair : Pair c.args.program.now c.args.log.now =
    record { code = c.in_ok-code.code; run = c.in_ok-code.log; programs = c.in_ok-code.ensures.code; logs = c.in_ok-code.ensures.log } in
    let why = unreadable_why c.args.program.now c.args.log.now c.args.refutation.now pair c.in_err-model.field-0.0 c.in_err-model.ensures.refused in
    search rules

pub returns-in_err-refuse_other-clause-refused : goal.returns-in_err-refuse_other-clause-refused
returns-in_err-refuse_other-clause-refused c =
    let pair : Pair c.args.program.now c.args.log.now =
    record { code = c.in_ok-code.code; run = c.in_ok-code.log; programs = c.in_ok-code.ensures.code; logs = c.in_ok-code.ensures.log } in
    let why = other_why c.args.program.now c.args.log.now c.args.refutation.now pair c.in_ok-model.model c.in_ok-model.derivation
    c.in_ok-model.ensures.found c.in_err-refuse_other.field-0.0 c.in_err-refuse_other.ensures.other in
    search rules

pub returns-in-Ok-Closed-clause-verdict : goal.returns-in-Ok-Closed-clause-verdict
returns-in-Ok-Closed-clause-verdict c =
    let m = c.in_ok-model.model in
    let pair : Pair c.args.program.now c.args.log.now =
    record { code = c.in_ok-code.code; run = c.in_ok-code.log; programs = c.in_ok-code.ensures.code; logs = c.in_ok-code.ensures.log } in
    closed_verdict c.args.program.now c.args.log.now c.args.refutation.now pair m c.in_ok-model.derivation c.in_ok-model.ensures.found
    c.in_ok-refuse_other.ensures.same c.in-Ok-Closed.ensures.within c.in-Ok-Closed.reasons
    (subst (IsExplained (buffer_of m) (bound_of m) c.in_ok-code.code c.in_ok-code.log.log c.in_ok-model.derivation) c.in-Ok-Closed.field-0-is c.in-Ok-Closed.ensures.ok)

pub returns-in-Ok-Open-clause-verdict : goal.returns-in-Ok-Open-clause-verdict
returns-in-Ok-Open-clause-verdict c =
    let m = c.in_ok-model.model in
    let pair : Pair c.args.program.now c.args.log.now =
    record { code = c.in_ok-code.code; run = c.in_ok-code.log; programs = c.in_ok-code.ensures.code; logs = c.in_ok-code.ensures.log } in
    open_verdict c.args.program.now c.args.log.now c.args.refutation.now pair m c.in_ok-model.derivation c.in_ok-model.ensures.found
    c.in_ok-refuse_other.ensures.same c.in-Ok-Open.ensures.within
    (subst (IsExplained (buffer_of m) (bound_of m) c.in_ok-code.code c.in_ok-code.log.log c.in_ok-model.derivation) c.in-Ok-Open.field-0-is c.in-Ok-Open.ensures.ok)

pub returns-in-Err-clause-verdict : goal.returns-in-Err-clause-verdict
returns-in-Err-clause-verdict c =
    let m = c.in_ok-model.model in
    let pair : Pair c.args.program.now c.args.log.now =
    record { code = c.in_ok-code.code; run = c.in_ok-code.log; programs = c.in_ok-code.ensures.code; logs = c.in_ok-code.ensures.log } in
    fault_verdict c.args.program.now c.args.log.now c.args.refutation.now pair m c.in_ok-model.derivation c.in_ok-model.ensures.found
    c.in_ok-refuse_other.ensures.same c.verdict_or_fault.result (c.verdict_or_fault.ensures (buffer_of m).buffered (bound_of m) c.in_ok-code.code
    c.in_ok-code.log.log c.in_ok-model.derivation c.in-Err.ensures.err)

pub returns-in-Err-clause-refused : goal.returns-in-Err-clause-refused
returns-in-Err-clause-refused c =
    let m = c.in_ok-model.model in
    let pair : Pair c.args.program.now c.args.log.now =
    record { code = c.in_ok-code.code; run = c.in_ok-code.log; programs = c.in_ok-code.ensures.code; logs = c.in_ok-code.ensures.log } in
    fault_refused c.args.program.now c.args.log.now c.args.refutation.now pair m c.in_ok-model.derivation c.in_ok-model.ensures.found
    c.in_ok-refuse_other.ensures.same c.verdict_or_fault.result (c.verdict_or_fault.ensures (buffer_of m).buffered (bound_of m) c.in_ok-code.code
    c.in_ok-code.log.log c.in_ok-model.derivation c.in-Err.ensures.err)
