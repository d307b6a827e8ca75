use Rattle.std.proofs.Common.{◌∙◌, arith}
use Rattle.schedule_replay.proofs.Merge.{goes_here, differs_here, only_in_log, only_in_run, all_go}
use Rattle.schedule_replay.proofs.replaying.first_other.Goals as goal

pub returns-in-Some : goal.returns-in-Some
returns-in-Some g c = differs_here c.args.state.now c.args.log.now.log c.as_slice-names.result.now c.threads-threads.result.now
    (c.as_slice-names.ensures ∙ c.threads.ensures) c.threads-threads.ensures.threads c.threads-threads.ensures.is_log c.loop-i.i
    c.index-threads-i.result c.index-names-i.result c.in-Some.name.now (omega arith) (omega arith) c.index-threads-i.is c.index-names-i.is
    c.in-Some.ensures c.loop-i.invariant

pub loop-i-preserved : goal.loop-i-preserved
loop-i-preserved g c = goes_here c.args.state.now c.args.log.now.log c.as_slice-names.result.now c.threads-threads.result.now
    (c.as_slice-names.ensures ∙ c.threads.ensures) c.threads-threads.ensures.threads c.threads-threads.ensures.is_log c.loop-i.i
    c.index-threads-i.result c.index-names-i.result (omega arith) (omega arith) c.index-threads-i.is c.index-names-i.is c.in_default.ensures
    c.loop-i.invariant

pub returns-then-shared-threads : goal.returns-then-shared-threads
returns-then-shared-threads g c =
    rw c.name.ensures (only_in_log c.args.state.now c.args.log.now.log c.as_slice-names.result.now c.threads-threads.result.now
    (c.as_slice-names.ensures ∙ c.threads.ensures) c.threads-threads.ensures.threads c.threads-threads.ensures.is_log c.min-shared.result c.loop-i.i
    c.index-threads-shared.result (omega arith) (omega arith) (omega arith) c.index-threads-shared.is c.loop-i.invariant)

pub returns-then-shared-names : goal.returns-then-shared-names
returns-then-shared-names g c = only_in_run c.args.state.now c.args.log.now.log c.as_slice-names.result.now c.threads-threads.result.now
    (c.as_slice-names.ensures ∙ c.threads.ensures) c.threads-threads.ensures.threads c.threads-threads.ensures.is_log c.min-shared.result c.loop-i.i
    c.index-names-shared.result (omega arith) (omega arith) (omega arith) c.index-names-shared.is c.loop-i.invariant

pub returns-else-shared-names : goal.returns-else-shared-names
returns-else-shared-names g c = all_go c.args.state.now c.args.log.now.log c.as_slice-names.result.now c.threads-threads.result.now
    (c.as_slice-names.ensures ∙ c.threads.ensures) c.threads-threads.ensures.threads c.threads-threads.ensures.is_log c.min-shared.result c.loop-i.i
    (omega arith) (omega arith) (omega arith) c.loop-i.invariant
