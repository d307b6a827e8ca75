use Rattle.std.proofs.Common.{◌≡◌, ◌∙◌, ◌+◌, ◌≤◌, ap, length, subst, sym}
use Rattle.std.proofs.lemmas.Result.{IfOk-weaker}
use Rattle.tc_machine.specs.Why.{reason_of}
use Rattle.schedule_replay.specs.Verdicts.{StopsAt, IsVerdict}
use Rattle.schedule_replay.specs.helpers.Judged.{IsJudged}
use Rattle.schedule_replay.specs.declared.verdict.Verdict.TheVariants as verdict
use Rattle.schedule_replay.proofs.Plays.{stops_here, not_reproduced, leads_on, counts, verdict_of, only_reproduced, all_made}
use Rattle.schedule_replay.proofs.replaying.replay.Goals as goal

pub returns-in-Err-NotEnabled-clause-verdict : goal.returns-in-Err-NotEnabled-clause-verdict
returns-in-Err-NotEnabled-clause-verdict g c =
    let here = rw c.deref-m-items.ensures.value at c.m-item.is in
    let lt = rw c.deref-m-items.ensures.value at c.loop-i-test.true in
    let moves = c.args.schedule.now.moves.items in
    subst (StopsAt g.M.MemoryModel.ops c.args.code.now moves (c.loop-i.i + 1)) (sym c.in-Err-NotEnabled.why-is)
    (stops_here g.M.MemoryModel.ops c.args.code.now moves c.loop-i.i c.m-item.result c.loop-i.state lt here c.loop-i.invariant
    c.in-Err-NotEnabled.why (c.in-Err-NotEnabled.ensures.why ∙ ap reason_of c.in-Err-NotEnabled.field-0-is))

pub returns-in-Err-NotEnabled-clause-reproduces : goal.returns-in-Err-NotEnabled-clause-reproduces
returns-in-Err-NotEnabled-clause-reproduces g c = λ reproduces.
    let here = rw c.deref-m-items.ensures.value at c.m-item.is in
    let lt = rw c.deref-m-items.ensures.value at c.loop-i-test.true in
    subst (λ why. verdict.Stops (c.loop-i.i + 1) why ≡ verdict.Reproduces) (sym c.in-Err-NotEnabled.why-is)
    (not_reproduced g.M.MemoryModel.ops c.args.code.now c.args.schedule.now.moves.items c.loop-i.i c.m-item.result c.loop-i.state lt here
    c.loop-i.invariant c.in-Err-NotEnabled.why (c.in-Err-NotEnabled.ensures.why ∙ ap reason_of c.in-Err-NotEnabled.field-0-is) c.args.log.now.log
    reproduces)

pub try_step-requires-clause-counters : goal.try_step-requires-clause-counters
try_step-requires-clause-counters g c =
    let here = rw c.deref-m-items.ensures.value at c.m-item.is in
    let lt = rw c.deref-m-items.ensures.value at c.loop-i-test.true in
    counts g.M.MemoryModel.ops c.args.code.now c.args.schedule.now.moves.items c.loop-i.i c.m-item.result c.loop-i.state lt here c.loop-i.invariant
    c.args.schedule.now.has_text.0

pub loop-i-preserved : goal.loop-i-preserved
loop-i-preserved g c =
    let here = rw c.deref-m-items.ensures.value at c.m-item.is in
    let lt = rw c.deref-m-items.ensures.value at c.loop-i-test.true in
    leads_on g.M.MemoryModel.ops c.args.code.now c.args.schedule.now.moves.items c.loop-i.i c.m-item.result c.loop-i.state lt here c.loop-i.invariant
    c.try_step.new.state c.in-Ok.ensures.ok

pub returns-clause-verdict : goal.returns-clause-verdict
returns-clause-verdict g c =
    let ops = g.M.MemoryModel.ops in
    let moves = c.args.schedule.now.moves.items in
    let log = c.args.log.now.log in
    let le : length moves ≤ c.loop-i.i = rw c.deref-m-items.ensures.value at c.loop-i-test.false in
    let leads = all_made ops c.args.code.now moves c.loop-i.i c.loop-i.state le c.loop-i.invariant in
    IfOk-weaker c.judge.result (IsJudged ops c.args.code.now c.loop-i.state log) (IsVerdict ops c.args.code.now log moves)
    (verdict_of ops c.args.code.now log moves c.loop-i.state leads) c.judge.ensures

pub returns-clause-reproduces : goal.returns-clause-reproduces
returns-clause-reproduces g c = λ reproduces.
    let ops = g.M.MemoryModel.ops in
    let moves = c.args.schedule.now.moves.items in
    let log = c.args.log.now.log in
    let le : length moves ≤ c.loop-i.i = rw c.deref-m-items.ensures.value at c.loop-i-test.false in
    let leads = all_made ops c.args.code.now moves c.loop-i.i c.loop-i.state le c.loop-i.invariant in
    IfOk-weaker c.judge.result (IsJudged ops c.args.code.now c.loop-i.state log) (λ v. v ≡ verdict.Reproduces)
    (only_reproduced ops c.args.code.now log moves c.loop-i.state leads reproduces) c.judge.ensures
