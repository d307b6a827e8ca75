use Rattle.std.proofs.Common.{◌∙◌, ap, sym}
use Rattle.world_moves.specs.Moves.{with_passing}
use Rattle.world_moves.proofs.Finds.{fold_range}
use Rattle.world_moves.proofs.moves.add_passing.Goals as goal

pub loop-thread-preserved : goal.loop-thread-preserved
loop-thread-preserved c = record {
  made = c.in_ok-add_if_passing.ensures.made ∙ ap (λ m. with_passing c.args.paths.now m c.loop-thread.thread) c.loop-thread.invariant.made
      ∙ sym (fold_range (with_passing c.args.paths.now) c.args.made.now c.loop-thread.thread);
  threads = c.in_ok-add_if_passing.ensures.threads;
}
