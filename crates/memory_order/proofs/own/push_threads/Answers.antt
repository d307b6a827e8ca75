use Rattle.std.proofs.Common.{◌++◌, ◌∙◌, ap, sym, take}
use Rattle.std.specs.Prelude.{fold}
use Rattle.std.proofs.lemmas.List.{take_all}
use Rattle.sym_terms.specs.Terms.{with_node}
use Rattle.sym_exec.proofs.Grown.{grows_both}
use Rattle.order_cells.proofs.Stay.{have_later}
use Rattle.order_events.specs.Parts.{of_each}
use Rattle.memory_order.specs.Own.{thread_formula, thread_tests}
use Rattle.memory_order.proofs.Pushes.{pushed_more, added_more, each_more}
use Rattle.memory_order.proofs.own.push_threads.Goals as goal

pub push_thread-requires : goal.push_thread-requires
push_thread-requires g c = have_later c.args.terms.now c.loop-number.terms c.args.symbolic.now c.loop-number.invariant.grown c.requires

pub loop-number-preserved : goal.loop-number-preserved
loop-number-preserved g c =
    let threads = c.args.threads.now in
    let k = c.loop-number.number in
    let walk = c.index-threads-number.result in
    record {
      pushed = λ later grows.
          let f = thread_formula g.M.MemoryModel.BUFFERED g.M.MemoryModel.bound c.args.events.now c.args.symbolic.now later in
          pushed_more c.args.conjuncts.now.items c.loop-number.conjuncts.items c.push_thread.new.conjuncts.items (of_each f (take k threads)) (f k walk)
          (c.loop-number.invariant.pushed later (grows_both c.loop-number.terms c.push_thread.new.terms later c.in_ok-push_thread.ensures.grown grows))
          (c.in_ok-push_thread.ensures.pushed later grows)
          ∙ ap (λ ks. c.args.conjuncts.now.items ++ ks) (sym (each_more f threads k walk c.loop-number-test.true (sym c.index-threads-number.is)));
      added = λ before have grows.
          let f = thread_tests g.M.MemoryModel.BUFFERED g.M.MemoryModel.bound c.args.symbolic.now before in
          added_more c.args.terms.now c.loop-number.terms c.push_thread.new.terms (of_each f (take k threads)) (f k walk)
          (c.loop-number.invariant.added before have grows)
          (c.in_ok-push_thread.ensures.added before have (grows_both before c.args.terms.now c.loop-number.terms grows c.loop-number.invariant.grown))
          ∙ ap (fold with_node c.args.terms.now) (sym (each_more f threads k walk c.loop-number-test.true (sym c.index-threads-number.is)));
      grown = grows_both c.args.terms.now c.loop-number.terms c.push_thread.new.terms c.loop-number.invariant.grown c.in_ok-push_thread.ensures.grown;
    }

pub returns-clause-pushed : goal.returns-clause-pushed
returns-clause-pushed g c = λ later grows.
    let f = thread_formula g.M.MemoryModel.BUFFERED g.M.MemoryModel.bound c.args.events.now c.args.symbolic.now later in
    c.loop-number.invariant.pushed later grows
    ∙ ap (λ ws. c.args.conjuncts.now.items ++ of_each f ws) (take_all c.loop-number.number c.args.threads.now c.loop-number-test.false)

pub returns-clause-added : goal.returns-clause-added
returns-clause-added g c = λ before have grows.
    let f = thread_tests g.M.MemoryModel.BUFFERED g.M.MemoryModel.bound c.args.symbolic.now before in
    c.loop-number.invariant.added before have grows
    ∙ ap (λ ws. fold with_node c.args.terms.now (of_each f ws)) (take_all c.loop-number.number c.args.threads.now c.loop-number-test.false)
