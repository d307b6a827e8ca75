use Rattle.std.proofs.Common.{◌∙◌, ◌+◌, ap, subst, sym, drop, fold, arith}
use Rattle.sym_exec.specs.Executed.{Executed, with_thread}
use Rattle.sym_exec.specs.helpers.Threads.{HaveTerms}
use Rattle.sym_exec.proofs.Grown.{grows_both}
use Rattle.sym_exec.proofs.Steps.{drop_next}
use Rattle.sym_exec.proofs.Sound.{thread_sound}
use Rattle.sym_exec.proofs.threads.execute.Goals as goal

pub loop-walk-preserved : goal.loop-walk-preserved
loop-walk-preserved c =
    let code = c.args.code.now in
    let paths = c.args.paths.now in
    let x : Executed = record { symbolic = c.loop-walk.symbolic; nodes = c.loop-walk.terms } in
    let w = c.walk-item.result in
    record {
      all = ap (λ y. fold (with_thread code paths) y (drop (c.loop-walk.walk-index + 1) paths.threads)) c.in_ok-add_thread.ensures.added
          ∙ ap (fold (with_thread code paths) x) (sym (drop_next paths.threads c.loop-walk.walk-index w (grind arith) (grind arith)))
          ∙ c.loop-walk.invariant.all;
      sound = subst HaveTerms (sym c.in_ok-add_thread.ensures.added)
          (thread_sound code paths x w c.in_ok-add_thread.ensures.lawful c.loop-walk.invariant.sound);
      grown = grows_both _ c.loop-walk.terms _ c.loop-walk.invariant.grown c.in_ok-add_thread.ensures.grown;
    }
