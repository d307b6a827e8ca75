use Rattle.std.proofs.Common.{◌∙◌, refl, sym, ap, subst, arith, length}
use Rattle.slot_liveness.specs.Tables.{liveness}
use Rattle.thread_paths.specs.helpers.Rounds.{EndsTurn}
use Rattle.thread_paths.proofs.Nodes.{no_instr}
use Rattle.thread_paths.proofs.Steps.{has_outcome, full, is_found, is_dead, is_next_node, is_against}
use Rattle.thread_paths.proofs.Turned.{at_turn}
use Rattle.thread_paths.proofs.descent.go_on.Goals as goal

pub returns-in_default : goal.returns-in_default
returns-in_default c start first node =
    no_instr c.args.program.code.now c.args.scope start first c.args.steps c.args.at c.args.outcomes.now.items c.args.past.now node
    (sym c.in_default.ensures.seen)

pub returns-in_default-2 : goal.returns-in_default-2
returns-in_default-2 c start first node =
    full c.args.program.code.now (liveness c.args.program.live.now) c.args.scope start first c.args.steps c.args.at c.args.outcomes.now.items c.args.past.now node c.in-Some.instr.now
    (sym c.in-Some.ensures.seen) _ c.in_ok-at.field-0 c.in_ok-at.ensures c.in_default-2.is

pub after-to-requires-clause-outcome : goal.after-to-requires-clause-outcome
after-to-requires-clause-outcome c branch =
    omega (
      arith,
      ap length c.deref-2.ensures.value,
      has_outcome c.args.scope.most c.in-Some.instr.now c.args.at c.in-Some-2.at c.args.outcomes.now.items
          c.with_outcome.new.outcomes.items c.in_ok-at.field-0 c.in-Some-2.is c.in_ok-at.ensures c.requires.used branch,
    )

pub returns-then-is_end : goal.returns-then-is_end
returns-then-is_end c start first node =
    is_found c.args.program.code.now (liveness c.args.program.live.now) c.args.scope start first c.args.steps c.args.at c.args.outcomes.now.items c.args.past.now node c.in-Some.instr.now
    (sym c.in-Some.ensures.seen) c.with_outcome.new.outcomes.items c.in_ok-at.field-0 c.in_ok-at.ensures c.in-Some-2.at c.in-Some-2.is c.requires.used
    c.after-to.result c.deref-2.result.now c.deref-3.result.now c.deref-2.ensures.value c.deref-3.ensures.value c.after-to.ensures c.if-is_end.ensures
    c.requires.steps

pub returns-then-excludes : goal.returns-then-excludes
returns-then-excludes c start first node =
    is_dead c.args.program.code.now (liveness c.args.program.live.now) c.args.scope start first c.args.steps c.args.at c.args.outcomes.now.items c.args.past.now node c.in-Some.instr.now
    (sym c.in-Some.ensures.seen) c.with_outcome.new.outcomes.items c.in_ok-at.field-0 c.in_ok-at.ensures c.in-Some-2.at c.in-Some-2.is c.requires.used
    c.after-to.result c.deref-2.result.now c.deref-3.result.now c.deref-2.ensures.value c.deref-3.ensures.value c.after-to.ensures c.if-is_end.ensures
    c.if-excludes.ensures

pub returns : goal.returns
returns c start first node =
    is_next_node c.args.program.code.now (liveness c.args.program.live.now) c.args.scope start first c.args.steps c.args.at c.args.outcomes.now.items c.args.past.now node c.in-Some.instr.now
    (sym c.in-Some.ensures.seen) c.with_outcome.new.outcomes.items c.in_ok-at.field-0 c.in_ok-at.ensures c.in-Some-2.at c.in-Some-2.is c.requires.used
    c.after-to.result c.deref-2.result.now c.deref-3.result.now c.deref-2.ensures.value c.deref-3.ensures.value c.after-to.ensures c.if-is_end.ensures
    c.if-excludes.ensures _ c.apply.ensures c.apply-2.ensures c.in_ok-push.ensures.items

pub returns-then-ends_turn : goal.returns-then-ends_turn
returns-then-ends_turn c start first node =
    at_turn c.args.program.code.now (liveness c.args.program.live.now) c.args.scope start first c.args.steps c.args.at c.args.outcomes.now.items c.args.past.now node
    (subst (λ ps. EndsTurn c.args.program.code.now c.args.scope.function ps (liveness c.args.program.live.now)) (c.deref.ensures.value ∙ c.in_ok-push.ensures.items)
    (c.if-ends_turn.ensures refl))

pub returns-then-rules_out : goal.returns-then-rules_out
returns-then-rules_out c start first node =
    let known = c.if-rules_out.ensures refl in
    is_against c.args.program.code.now (liveness c.args.program.live.now) c.args.scope start first c.args.steps c.args.at c.args.outcomes.now.items c.args.past.now node c.in-Some.instr.now
    (sym c.in-Some.ensures.seen) c.with_outcome.new.outcomes.items c.in_ok-at.field-0 c.in_ok-at.ensures c.in-Some-2.at c.in-Some-2.is c.requires.used
    c.after-to.result c.deref-2.result.now c.deref-3.result.now c.deref-2.ensures.value c.deref-3.ensures.value c.after-to.ensures c.if-is_end.ensures
    c.if-excludes.ensures (record c.args.past.now { places = c.push.new.self }) c.in_ok-push.ensures.items known.0 known.1 known.2
