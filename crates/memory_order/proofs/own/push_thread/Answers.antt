use Rattle.std.proofs.Common.{◌-◌, [], length, get_or, take, drop}
use Rattle.std.specs.List.{flat_map}
use Rattle.std.proofs.lemmas.List.{take_rest}
use Rattle.path_walk.specs.declared.event.Event.{Event}
use Rattle.path_walk.specs.declared.event.EventKind.TheVariants.{Load}
use Rattle.sym_exec.proofs.Grown.{grows_both}
use Rattle.order_cells.proofs.Stay.{have_later}
use Rattle.memory_order.specs.Own.{two_formula, two_tests}
use Rattle.memory_order.specs.Twos.{twos, twos_with}
use Rattle.memory_order.proofs.Pushes.{pushed_rest, added_rest, twos_first}
use Rattle.memory_order.proofs.own.push_thread.Goals as goal

pub push_after-requires : goal.push_after-requires
push_after-requires g c =
    have_later c.args.terms.now c.loop-rest.terms c.args.thread.now.symbolic.now c.loop-rest.invariant.grown c.requires

pub loop-rest-preserved : goal.loop-rest-preserved
loop-rest-preserved g c =
    let t = c.args.thread.now in
    let rest = c.loop-rest.rest.now in
    let past : Event = record { step = 0; line = 0; kind = Load; bars = 0 } in
    let after = take (length rest - 1) (drop 1 rest) in
    let first = twos_with (get_or rest 0 past) [] after in
    record {
      pushed = λ later grows.
          let f = two_formula g.M.MemoryModel.BUFFERED g.M.MemoryModel.bound c.args.events.now t.symbolic.now later t.number in
          pushed_rest c.loop-rest.conjuncts.items c.push_after.new.conjuncts.items (flat_map f first) (flat_map f (twos after)) _ _
          (c.in_ok-push_after.ensures.pushed later grows) (twos_first f rest after past c.in-len1-up.len_at_least (take_rest rest 1))
          (c.loop-rest.invariant.pushed later (grows_both c.loop-rest.terms c.push_after.new.terms later c.in_ok-push_after.ensures.grown grows));
      added = λ before have grows.
          let f = two_tests g.M.MemoryModel.BUFFERED g.M.MemoryModel.bound t.symbolic.now before t.number in
          added_rest c.loop-rest.terms c.push_after.new.terms _ (flat_map f first) (flat_map f (twos after)) _
          (c.in_ok-push_after.ensures.added before have (grows_both before c.args.terms.now c.loop-rest.terms grows c.loop-rest.invariant.grown))
          (twos_first f rest after past c.in-len1-up.len_at_least (take_rest rest 1)) (c.loop-rest.invariant.added before have grows);
      grown = grows_both c.args.terms.now c.loop-rest.terms c.push_after.new.terms c.loop-rest.invariant.grown c.in_ok-push_after.ensures.grown;
    }
