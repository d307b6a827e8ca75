use Rattle.std.proofs.Common.{◌∙◌, sym, arith}
use Rattle.slot_liveness.specs.Tables.{liveness}
use Rattle.find_failures.proofs.Rounds.{first_settled, ended_last, ended_before}
use Rattle.find_failures.proofs.levels.levels.Goals as goal

pub levels-init : goal.levels-init
levels-init g c = record {
  gone = c.requires.gone;
  settled = first_settled g.M.MemoryModel.ops g.M.MemoryModel.MODEL g.M.MemoryModel.bound c.args.program.code.now (liveness c.args.program.live.now) c.args.asked 0 c.args.gone.now;
  few = omega arith;
}

pub returns-then-is_last : goal.returns-then-is_last
returns-then-is_last g c =
    ended_last g.M.MemoryModel.ops g.M.MemoryModel.MODEL g.M.MemoryModel.bound c.args.program.code.now (liveness c.args.program.live.now) c.args.asked c.levels.level
    c.round.new.gone c.in_ok-ended.ended (sym c.is_last.ensures ∙ c.if-is_last.true) c.in_ok-ended.ensures

pub overflow_add-level : goal.overflow_add-level
overflow_add-level g c =
    let next =
    ended_before g.M.MemoryModel.ops g.M.MemoryModel.MODEL g.M.MemoryModel.bound c.args.program.code.now (liveness c.args.program.live.now) c.args.asked c.levels.level
    c.round.new.gone c.in_ok-ended.ended (sym c.is_last.ensures ∙ c.if-is_last.false) c.levels.invariant.few c.in_ok-ended.ensures in
    omega (arith, next.2)

pub levels-preserved : goal.levels-preserved
levels-preserved g c =
    let next =
    ended_before g.M.MemoryModel.ops g.M.MemoryModel.MODEL g.M.MemoryModel.bound c.args.program.code.now (liveness c.args.program.live.now) c.args.asked c.levels.level
    c.round.new.gone c.in_ok-ended.ended (sym c.is_last.ensures ∙ c.if-is_last.false) c.levels.invariant.few c.in_ok-ended.ensures in
    record { gone = next.0; settled = next.1; few = omega (arith, next.2) }

pub levels-smaller : goal.levels-smaller
levels-smaller g c =
    let next =
    ended_before g.M.MemoryModel.ops g.M.MemoryModel.MODEL g.M.MemoryModel.bound c.args.program.code.now (liveness c.args.program.live.now) c.args.asked c.levels.level
    c.round.new.gone c.in_ok-ended.ended (sym c.is_last.ensures ∙ c.if-is_last.false) c.levels.invariant.few c.in_ok-ended.ensures in
    omega (arith, next.2)
