use Rattle.std.proofs.Common.{◌≡◌, ◌+◌, sym, ◌∙◌, ap, get_or}
use Rattle.std.specs.Prelude.{is_some}
use Rattle.cdcl_literals.specs.Literals.{opposite_of}
use Rattle.cdcl_trail.specs.Trail.{Trail, IsTrail}
use Rattle.cdcl_clauses.specs.Clauses.{at, watches}
use Rattle.cdcl_clauses.specs.Invariants.{AreGuarded}
use Rattle.cdcl_propagate.proofs.Guarding.{same-trans, extends-trans, extends-advanced, guarded-advanced, reasoned-advanced}
use Rattle.cdcl_literals.proofs.Opposites.{opposite_of-opposite_of}
use Rattle.cdcl_propagate.proofs.Visiting.{fallen-now}
use Rattle.cdcl_propagate.proofs.units.propagate.Goals as goal

pub returns-in-Some-2-clause-keeps : goal.returns-in-Some-2-clause-keeps
returns-in-Some-2-clause-keeps c =
    let inv = c.loop-literal.invariant in
    let k = c.visit.ensures.keeps in
    record {
      sound = k.sound;
      same = same-trans c.args.clauses.now c.loop-literal.clauses c.visit.new.clauses inv.same k.same;
      extends = extends-trans c.args.trail.now c.loop-literal.trail c.visit.new.trail inv.extends k.extends;
    }

pub loop-literal-preserved : goal.loop-literal-preserved
loop-literal-preserved c =
    let inv = c.loop-literal.invariant in
    let k = c.visit.ensures.keeps in
    let t : Trail = c.visit.new.trail in
    let cs = c.visit.new.clauses in
    let visited = c.in_ok-conflict.ensures.none (ap (λ o. is_some o) c.in_default-2.is) in
    let pending = c.in-Some.ensures.some in
    let fallen : c.opposite.result ≡ opposite_of (get_or c.loop-literal.trail.literals c.loop-literal.trail.propagated 0) = c.opposite.ensures
    ∙ ap opposite_of pending.1 in
    let now = fallen-now c.loop-literal.trail t k.extends c.opposite.result pending.0 fallen c.visit.ensures.same in
    let guarded : AreGuarded (record t { propagated = t.propagated + 1 }) cs =
    guarded-advanced t cs k.sound.guarded now.0
    (λ m l ml wl e. visited m ml (ap (watches (at cs m)) (now.1 ∙ ap opposite_of (sym e) ∙ opposite_of-opposite_of l) ∙ wl)) in
    let lawful : IsTrail (record t { propagated = t.propagated + 1 }) = rw c.advance.ensures.after at c.advance.ensures.lawful in
    rw c.advance.ensures.after (record {
      sound = record { lawful = lawful; linked = k.sound.linked; guarded = guarded; reasoned = reasoned-advanced t cs k.sound.reasoned };
      same = same-trans c.args.clauses.now c.loop-literal.clauses cs inv.same k.same;
      extends = extends-advanced c.args.trail.now t (extends-trans c.args.trail.now c.loop-literal.trail t inv.extends k.extends);
    })
