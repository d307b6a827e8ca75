use Rattle.std.proofs.Common.{◌∙◌, ap, subst, rules}
use Rattle.run_log.specs.Logs.{StoredLog}
use Rattle.tc_compile.specs.Programs.{IsCodeOf, IsWhyNoCode}
use Rattle.workload_command.specs.Works.{plain_workload}
use Rattle.workload_command.proofs.Worked.{searched, uncoded, unsearched}
use Rattle.workload_command.proofs.work.worked.Goals as goal

pub returns-in_err-code-clause-refused : goal.returns-in_err-code-clause-refused
returns-in_err-code-clause-refused c =
    let text = c.deref.ensures.value ∙ c.in_ok-program.ensures.text in
    let why = uncoded (plain_workload c.args.workload.now) c.in_err-code.field-0.0
    (subst (λ p. IsWhyNoCode p c.in_err-code.field-0.0) text c.in_err-code.ensures.refused) in
    search rules

pub returns-clause-work : goal.returns-clause-work
returns-clause-work c =
    let text = c.deref.ensures.value ∙ c.in_ok-program.ensures.text in
    let is = subst (λ p. IsCodeOf p c.in_ok-code.code) text c.in_ok-code.ensures.found in
    let same = ap (λ (l : StoredLog). l.log) c.in_ok-log.ensures in
    searched (plain_workload c.args.workload.now) c.in_ok-code.code is c.in_ok-log.log.log same c.searched.result c.searched.ensures.work
    c.searched.ensures.within

pub returns-clause-refused : goal.returns-clause-refused
returns-clause-refused c =
    let text = c.deref.ensures.value ∙ c.in_ok-program.ensures.text in
    let is = subst (λ p. IsCodeOf p c.in_ok-code.code) text c.in_ok-code.ensures.found in
    let same = ap (λ (l : StoredLog). l.log) c.in_ok-log.ensures in
    unsearched (plain_workload c.args.workload.now) c.in_ok-code.code is c.in_ok-log.log.log same c.searched.result c.searched.ensures.refused
