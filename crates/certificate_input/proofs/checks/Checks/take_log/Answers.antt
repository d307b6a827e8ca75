use Rattle.std.proofs.Common.{◌∙◌, refl, sym}
use Rattle.std.proofs.lemmas.Bool.{false≢true}
use Rattle.certificate_input.specs.Wrong.IsRefused.{NoMore, Other}
use Rattle.slot_liveness.specs.Tables.{liveness}
use Rattle.certified_logs.proofs.Places.{is_next}
use Rattle.certified_logs.proofs.Promised.{all_refuted}
use Rattle.certificate_input.proofs.Stages.{log_begun, not_line, over_wrong, unrefuted_wrong, wrong_log_so}
use Rattle.certificate_input.proofs.checks.Checks.take_log.Goals as goal

pub returns-in-None-clause-wrong : goal.returns-in-None-clause-wrong
returns-in-None-clause-wrong c =
    unrefuted_wrong c.args.code.now c.args.self.now.header c.args.line.now (rw c.in-None.is at c.in_ok-next.ensures.next)

pub returns-in-Some-Limit-clause-wrong : goal.returns-in-Some-Limit-clause-wrong
returns-in-Some-Limit-clause-wrong c =
    let is = rw c.in-Some-Limit.field-0-is at (rw c.in-Some-Limit.is at c.in_ok-next.ensures.next) in
    over_wrong c.args.code.now c.args.self.now.header c.args.line.now is.0 c.in-Some-Limit.which c.in-Some-Limit.count c.in-Some-Limit.limit is.1 is.2

pub returns-in_ok-wrong_log-in-Some-Done-clause-wrong : goal.returns-in_ok-wrong_log-in-Some-Done-clause-wrong
returns-in_ok-wrong_log-in-Some-Done-clause-wrong c =
    let done = rw c.in-Some-Done.field-0-is at (rw c.in-Some-Done.is at c.in_ok-next.ensures.next) in
    wrong_log_so c.args.code.now c.args.self.now.header c.args.line.now _ c.in_ok-wrong_log-in-Some-Done.ensures (NoMore _ (all_refuted c.args.code.now (liveness c.next.new.self.place.live) done.0 c.args.self.now.header _ done.1))

pub returns-then-not-branch-clause-wrong : goal.returns-then-not-branch-clause-wrong
returns-then-not-branch-clause-wrong c =
    let is = rw c.in-Some-Log.field-0-is at (rw c.in-Some-Log.is at c.in_ok-next.ensures.next) in
    wrong_log_so c.args.code.now c.args.self.now.header c.args.line.now c.in_ok-wrong_log-in-Some-Log.field-0 c.in_ok-wrong_log-in-Some-Log.ensures
    (Other c.in-Some-Log.log.log
    (is_next c.args.code.now (liveness c.next.new.self.place.live) c.args.self.now.header c.next.new.self.place is.0.reached c.in-Some-Log.log.log is.1)
    (not_line c.in-Some-Log.log.log _ c.threads.result.now c.args.line.now c.failing_name.ensures c.threads.ensures.threads
    (λ e. false≢true (sym c.if-not-branch.true ∙ c.in_ok-is_log_line-in-Some-Log.ensures.1 e))))

pub returns-else-not-branch-clause-wrong : goal.returns-else-not-branch-clause-wrong
returns-else-not-branch-clause-wrong c =
    let is = rw c.in-Some-Log.field-0-is at (rw c.in-Some-Log.is at c.in_ok-next.ensures.next) in
    log_begun c.args.code.now _ c.args.self.now.header c.in-Some-Log.log.log c.in-Some-Log.checker c.in_ok-next.ensures.header refl is.0 is.1 is.2 is.3
