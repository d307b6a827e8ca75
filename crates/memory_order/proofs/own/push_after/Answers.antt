use Rattle.std.proofs.Common.{◌+◌, ◌++◌, ◌∙◌, get_or, take, drop, ap, sym, append-nil}
use Rattle.std.specs.Prelude.{fold}
use Rattle.std.specs.List.{flat_map}
use Rattle.path_walk.specs.declared.event.Event.{Event}
use Rattle.path_walk.specs.declared.event.EventKind.TheVariants.{Load}
use Rattle.sym_terms.specs.Terms.{with_node}
use Rattle.sym_exec.proofs.Grown.{grows_both}
use Rattle.order_cells.proofs.Stay.{have_later}
use Rattle.memory_order.specs.Own.{two_formula, two_tests}
use Rattle.memory_order.specs.Twos.{Two, twos_with}
use Rattle.memory_order.proofs.Pushes.{pushed_rest, added_rest, twos_more, twos_end}
use Rattle.memory_order.proofs.own.push_after.Goals as goal

pub push_two-requires : goal.push_two-requires
push_two-requires g c =
    have_later c.args.terms.now c.loop-place.terms c.args.thread.now.symbolic.now c.loop-place.invariant.grown c.requires

pub loop-place-preserved : goal.loop-place-preserved
loop-place-preserved g c =
    let t = c.args.thread.now in
    let k = c.loop-place.place in
    let first = c.args.first.now in
    let after = c.args.after.now in
    let past : Event = record { step = 0; line = 0; kind = Load; bars = 0 } in
    let next = twos_with first (take (k + 1) after) (drop (k + 1) after) in
    let two : Two Event = record { first = first; between = take k after; second = get_or after k past } in
    record {
      pushed = λ later grows.
          let f = two_formula g.M.MemoryModel.BUFFERED g.M.MemoryModel.bound c.args.events.now t.symbolic.now later t.number in
          pushed_rest c.loop-place.conjuncts.items c.push_two.new.conjuncts.items (f two) (flat_map f next) _ _
          (c.in_ok-push_two.ensures.pushed later grows) (twos_more f first after k past c.loop-place-test.true)
          (c.loop-place.invariant.pushed later (grows_both c.loop-place.terms c.push_two.new.terms later c.in_ok-push_two.ensures.grown grows));
      added = λ before have grows.
          let f = two_tests g.M.MemoryModel.BUFFERED g.M.MemoryModel.bound t.symbolic.now before t.number in
          added_rest c.loop-place.terms c.push_two.new.terms _ (f two) (flat_map f next) _
          (c.in_ok-push_two.ensures.added before have (grows_both before c.args.terms.now c.loop-place.terms grows c.loop-place.invariant.grown))
          (twos_more f first after k past c.loop-place-test.true) (c.loop-place.invariant.added before have grows);
      grown = grows_both c.args.terms.now c.loop-place.terms c.push_two.new.terms c.loop-place.invariant.grown c.in_ok-push_two.ensures.grown;
    }

pub returns-clause-pushed : goal.returns-clause-pushed
returns-clause-pushed g c = λ later grows.
    let t = c.args.thread.now in
    let f = two_formula g.M.MemoryModel.BUFFERED g.M.MemoryModel.bound c.args.events.now t.symbolic.now later t.number in
    sym (append-nil c.loop-place.conjuncts.items)
    ∙ ap (λ ks. c.loop-place.conjuncts.items ++ ks) (sym (twos_end f c.args.first.now c.args.after.now c.loop-place.place c.loop-place-test.false))
    ∙ c.loop-place.invariant.pushed later grows

pub returns-clause-added : goal.returns-clause-added
returns-clause-added g c = λ before have grows.
    let t = c.args.thread.now in
    let f = two_tests g.M.MemoryModel.BUFFERED g.M.MemoryModel.bound t.symbolic.now before t.number in
    ap (fold with_node c.loop-place.terms) (sym (twos_end f c.args.first.now c.args.after.now c.loop-place.place c.loop-place-test.false))
    ∙ c.loop-place.invariant.added before have grows
