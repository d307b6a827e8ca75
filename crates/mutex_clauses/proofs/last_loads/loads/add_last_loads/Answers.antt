use Rattle.std.proofs.Common.{ℕ, ◌+◌, ◌*◌, ap, sym, ◌∙◌, length}
use Rattle.std.specs.Prelude.{fold}
use Rattle.std.proofs.lemmas.List.{take_all}
use Rattle.cnf_core.specs.Clauses.{Formula}
use Rattle.sym_exec.specs.declared.symbolic.Access.{Access}
use Rattle.order_events.specs.lawful_order.Events.{Placed}
use Rattle.mutex_clauses.specs.last_loads.helpers.Listed.{with_outside}
use Rattle.mutex_clauses.proofs.last_loads.Bounds.{larger_all, larger_next, room_next, state_more}
use Rattle.mutex_clauses.proofs.last_loads.Folds.{fold_next}
use Rattle.mutex_clauses.proofs.last_loads.Same.{same_loads}
use Rattle.mutex_clauses.proofs.last_loads.loads.add_last_loads.Goals as goal

pub add_if_outside-requires-clause-loads : goal.add_if_outside-requires-clause-loads
add_if_outside-requires-clause-loads c =
    λ l is. c.requires.loads c.access-item.result l (c.loop-access.access-index, c.loop-access-test.true, sym c.access-item.is) is

pub add_if_outside-requires-clause-within : goal.add_if_outside-requires-clause-within
add_if_outside-requires-clause-within c =
    let s = c.args.last.now in
    state_more c.args.circuit.now.vars c.loop-access.circuit.vars s.literals.layout.now s.literals.roots.now s.ordered s.words.now
    c.loop-access.invariant.larger.0 c.requires.within

pub add_if_outside-requires-clause-room : goal.add_if_outside-requires-clause-room
add_if_outside-requires-clause-room c =
    let s = c.args.last.now in
    room_next (length c.args.accesses.now) c.loop-access.access-index ((length s.regions.now + 1) * 3 + length s.spots.now * 64) c.args.circuit.now
    c.loop-access.circuit c.loop-access-test.true c.loop-access.invariant.larger c.requires.room

pub loop-access-preserved : goal.loop-access-preserved
loop-access-preserved c =
    let s = c.args.last.now in
    let t = s.literals in
    let step : Formula → Placed Access → Formula =
    with_outside t.paths.now t.layout.now t.conjuncts.now t.roots.now s.terms.now s.ordered s.regions.now s.spots.now s.words.now in
    let one : ℕ = (length s.regions.now + 1) * 3 + length s.spots.now * 64 in
    let was = c.loop-access.invariant in
    let now = c.in_ok-add_if_outside.ensures in
    let i : ℕ = c.loop-access.access-index in
    record {
      circuit = fold_next step c.args.circuit.now c.args.accesses.now i c.access-item.result c.loop-access.circuit c.add_if_outside.new.circuit
          c.loop-access-test.true c.access-item.is was.circuit now.circuit;
      larger = larger_next i one c.args.circuit.now c.loop-access.circuit c.add_if_outside.new.circuit was.larger now.larger;
    }

pub returns-clause-circuit : goal.returns-clause-circuit
returns-clause-circuit c =
    let s = c.args.last.now in
    let t = s.literals in
    let step : Formula → Placed Access → Formula =
    with_outside t.paths.now t.layout.now t.conjuncts.now t.roots.now s.terms.now s.ordered s.regions.now s.spots.now s.words.now in
    λ code symbolic m d regions spots accesses layout roots.
    c.loop-access.invariant.circuit
    ∙ ap (fold step c.args.circuit.now) (take_all c.loop-access.access-index c.args.accesses.now c.loop-access-test.false)
    ∙ same_loads t.paths.now s.terms.now t.conjuncts.now s.ordered s.words.now code symbolic m d t.layout.now t.roots.now s.regions.now s.spots.now
    c.args.accesses.now c.args.circuit.now regions spots accesses layout roots

pub returns-clause-larger : goal.returns-clause-larger
returns-clause-larger c =
    let s = c.args.last.now in
    larger_all c.loop-access.access-index (length c.args.accesses.now) ((length s.regions.now + 1) * 3 + length s.spots.now * 64) c.args.circuit.now
    c.loop-access.circuit c.loop-access.auto.access-index-end c.loop-access.invariant.larger
