use Rattle.std.proofs.Common.{◌≡◌, ◌∙◌, ◌≤◌, length, Result, Ok, Err, IfOk, sym, ap}
use Rattle.tc_machine.proofs.Reasons.{enabled_without_reason}
use Rattle.schedule_replay.proofs.Plays.{counts}
use Rattle.show_deeds.specs.Deeds.{plain_deed}
use Rattle.show_deeds.specs.Seen.{seen_after}
use Rattle.show_rows.specs.Rows.{AreTold}
use Rattle.show_rows.specs.declared.told.End.TheVariants as end
use Rattle.show_rows.proofs.Moves.{told_on, told_to, told_whole}
use Rattle.show_rows.proofs.told.tell.Goals as goal

-- two facts of a result, and what follows from both
both : {X E : Type 0} (r : Result X E) (P Q R : X → Type 0) → ((x : X) → P x → Q x → R x) → IfOk r P → IfOk r Q → IfOk r R
both (Ok x) P Q R f p q = f x p q
both (Err e) P Q R f p q = p

pub row-requires-clause-enabled : goal.row-requires-clause-enabled
row-requires-clause-enabled g c =
    enabled_without_reason g.M.MemoryModel.ops c.args.code.now c.loop-m.state c.m-item.result c.in_default.ensures

pub row-requires-clause-counters : goal.row-requires-clause-counters
row-requires-clause-counters g c =
    let here = rw c.deref-m-items.ensures.value at c.m-item.is in
    let lt = rw c.deref-m-items.ensures.value at c.loop-m-test.true in
    counts g.M.MemoryModel.ops c.args.code.now c.args.schedule.now.moves.items c.loop-m.m-index c.m-item.result c.loop-m.state lt here
    c.loop-m.invariant.leads c.args.schedule.now.has_text.0

pub step-requires-clause-enabled : goal.step-requires-clause-enabled
step-requires-clause-enabled g c =
    enabled_without_reason g.M.MemoryModel.ops c.args.code.now c.loop-m.state c.m-item.result c.in_default.ensures

pub step-requires-clause-counters : goal.step-requires-clause-counters
step-requires-clause-counters g c =
    let here = rw c.deref-m-items.ensures.value at c.m-item.is in
    let lt = rw c.deref-m-items.ensures.value at c.loop-m-test.true in
    counts g.M.MemoryModel.ops c.args.code.now c.args.schedule.now.moves.items c.loop-m.m-index c.m-item.result c.loop-m.state lt here
    c.loop-m.invariant.leads c.args.schedule.now.has_text.0

pub returns-in-Err : goal.returns-in-Err
returns-in-Err g c =
    let here = rw c.deref-m-items.ensures.value at c.m-item.is in
    let lt = rw c.deref-m-items.ensures.value at c.loop-m-test.true in
    both c.finish.result (λ told. told.rows.items ≡ c.into_rows.result.items) (λ told. told.end ≡ end.Stopped c.in-Err.why)
    (λ told. AreTold g.M.MemoryModel.ops c.args.code.now c.args.schedule.now.moves.items told.rows.items told.end)
    (λ told rows is.
    told_to g.M.MemoryModel.ops c.args.code.now c.args.schedule.now.moves.items c.loop-m.m-index c.m-item.result c.loop-m.state c.loop-m.telling lt here
    c.loop-m.invariant c.in-Err.why told.rows.items told.end c.in-Err.ensures (rows ∙ c.into_rows.ensures) is)
    c.finish.ensures.rows c.finish.ensures.end

pub loop-m-preserved : goal.loop-m-preserved
loop-m-preserved g c =
    let here = rw c.deref-m-items.ensures.value at c.m-item.is in
    let lt = rw c.deref-m-items.ensures.value at c.loop-m-test.true in
    told_on g.M.MemoryModel.ops c.args.code.now c.args.schedule.now.moves.items c.loop-m.m-index c.m-item.result c.loop-m.state c.loop-m.telling lt here
    c.loop-m.invariant c.step.new.state c.take.new.self _ c.in_ok-step.ensures.ok c.in_ok-row.ensures.did c.in_ok-take.ensures.rows
    (c.in_ok-take.ensures.seen
    ∙ ap (λ b. seen_after b c.loop-m.telling.seen (plain_deed c.in_ok-row.row.deed)) (c.BUFFERED.ensures ∙ g.met.M.MemoryModel.buffered))
    c.in_ok-row.ensures.at

pub returns : goal.returns
returns g c =
    let moves = c.args.schedule.now.moves.items in
    let le : length moves ≤ c.loop-m.m-index = rw c.deref-m-items.ensures.value at c.loop-m-test.false in
    both c.finish-2.result (λ told. told.rows.items ≡ c.into_rows-2.result.items) (λ told. told.end ≡ c.in_ok-end.end)
    (λ told. AreTold g.M.MemoryModel.ops c.args.code.now moves told.rows.items told.end)
    (λ told rows is.
    told_whole g.M.MemoryModel.ops c.args.code.now moves c.loop-m.m-index c.loop-m.state c.loop-m.telling told.rows.items told.end c.in_ok-end.end le
    c.loop-m.invariant c.in_ok-end.ensures (rows ∙ c.into_rows-2.ensures) is)
    c.finish-2.ensures.rows c.finish-2.ensures.end
