use Rattle.std.proofs.Common.{◌≡◌, length, subst, sym, arith}
use Rattle.tc_base.specs.declared.failing.Failing.TheVariants as failing
use Rattle.find_failures.specs.Runs.{AreImpossible}
use Rattle.find_failures.specs.helpers.Gone.{IsTried}
use Rattle.find_failures.proofs.Tried.{AreRuledOut, IsRuledOut, none_ruled_out, all_ruled_out, records_failure, tried_next}
use Rattle.find_failures.proofs.gone.Gone.try_failures.Goals as goal

pub loop-index-init : goal.loop-index-init
loop-index-init g c = record {
  gone = c.requires.gone;
  so_far = λ none. (none, none_ruled_out g.M.MemoryModel.ops g.M.MemoryModel.MODEL c.args.code.now c.args.threads.now);
}

pub try_end-requires-clause-records : goal.try_end-requires-clause-records
try_end-requires-clause-records g c =
    records_failure g.M.MemoryModel.MODEL c.args.threads.now c.args.asked.kind c.loop-index.index c.requires.kind c.loop-index-test.true

pub try_end-requires-clause-reached : goal.try_end-requires-clause-reached
try_end-requires-clause-reached g c = λ none. c.requires.reached (c.loop-index.invariant.so_far none).0

pub loop-index-preserved : goal.loop-index-preserved
loop-index-preserved g c =
    let next =
    tried_next g.M.MemoryModel.ops g.M.MemoryModel.MODEL g.M.MemoryModel.bound c.args.code.now c.args.asked c.args.threads.now
    c.loop-index.index c.args.self.now c.loop-index.self c.try_end.new.self c.loop-index.invariant.so_far
    (subst (IsTried g.M.MemoryModel.ops g.M.MemoryModel.MODEL g.M.MemoryModel.bound c.args.code.now c.args.asked c.loop-index.self c.try_end.new.self
    (IsRuledOut g.M.MemoryModel.ops g.M.MemoryModel.MODEL c.args.code.now c.args.threads.now (failing.Thread c.loop-index.index)))
    c.in_default.is c.in_ok-possible.ensures) in
    record { gone = next.0; so_far = next.1 }

pub returns : goal.returns
returns g c =
    let same : c.loop-index.index ≡ length c.args.threads.now = omega arith in (
      c.loop-index.invariant.gone,
      λ none. let all = c.loop-index.invariant.so_far none in (
        all.0,
        subst (λ k. AreImpossible g.M.MemoryModel.ops g.M.MemoryModel.MODEL c.args.code.now k c.args.threads.now) (sym c.requires.kind)
            (all_ruled_out g.M.MemoryModel.ops g.M.MemoryModel.MODEL c.args.code.now c.args.threads.now
            (subst (AreRuledOut g.M.MemoryModel.ops g.M.MemoryModel.MODEL c.args.code.now c.args.threads.now) same all.1)),
      ),
    )
