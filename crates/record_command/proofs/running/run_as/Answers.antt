use Rattle.std.proofs.Common.{subst, sym, IfOk}
use Rattle.store_buffers.specs.Buffers.{buffer_of}
use Rattle.tc_record.specs.Seeded.{seeded_run}
use Rattle.record_command.specs.Meanings.{IsRanAs}
use Rattle.record_command.proofs.running.run_as.Goals as goal

pub returns-in-Sc : goal.returns-in-Sc
returns-in-Sc c =
    let r = c.args.call.now in
    subst (λ m. IfOk c.run_under.result (IsRanAs m c.args.program.now c.args.code.now (seeded_run (buffer_of m) c.args.code.now r.seed r.steps)))
    (sym c.in-Sc.is) c.run_under.ensures

pub returns-in-Tso : goal.returns-in-Tso
returns-in-Tso c =
    let r = c.args.call.now in
    subst (λ m. IfOk c.run_under-in-Tso.result (IsRanAs m c.args.program.now c.args.code.now (seeded_run (buffer_of m) c.args.code.now r.seed r.steps)))
    (sym c.in-Tso.is) c.run_under-in-Tso.ensures

pub returns-in-Pso : goal.returns-in-Pso
returns-in-Pso c =
    let r = c.args.call.now in
    subst (λ m. IfOk c.run_under-in-Pso.result (IsRanAs m c.args.program.now c.args.code.now (seeded_run (buffer_of m) c.args.code.now r.seed r.steps)))
    (sym c.in-Pso.is) c.run_under-in-Pso.ensures
