use Rattle.std.proofs.Common.{subst, sym, IfOk}
use Rattle.store_buffers.specs.Buffers.{buffer_of}
use Rattle.schedule_replay.specs.Verdicts.{IsVerdict}
use Rattle.replay_command.proofs.replay.replay_under.Goals as goal

pub returns-in-Sc : goal.returns-in-Sc
returns-in-Sc c =
    subst (λ m. IfOk c.replay.result (IsVerdict (buffer_of m) c.args.code.now c.args.log.now.log c.args.schedule.now.moves.items))
    (sym c.in-Sc.is) c.replay.ensures.verdict

pub returns-in-Tso : goal.returns-in-Tso
returns-in-Tso c =
    subst (λ m. IfOk c.replay-in-Tso.result (IsVerdict (buffer_of m) c.args.code.now c.args.log.now.log c.args.schedule.now.moves.items))
    (sym c.in-Tso.is) c.replay-in-Tso.ensures.verdict

pub returns-in-Pso : goal.returns-in-Pso
returns-in-Pso c =
    subst (λ m. IfOk c.replay-in-Pso.result (IsVerdict (buffer_of m) c.args.code.now c.args.log.now.log c.args.schedule.now.moves.items))
    (sym c.in-Pso.is) c.replay-in-Pso.ensures.verdict
