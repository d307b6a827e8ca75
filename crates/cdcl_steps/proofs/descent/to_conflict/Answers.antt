use Rattle.std.proofs.Common.{◌≡◌, ◌∙◌, length, ap}
use Rattle.std.specs.Prelude.{is_some}
use Rattle.cdcl_trail.specs.Trail.{IsTrail, decided}
use Rattle.cdcl_steps.proofs.Deciding.{open-literal, descends-propagates, descends-decided}
use Rattle.cdcl_steps.proofs.descent.to_conflict.Goals as goal

pub loop-conflict-preserved : goal.loop-conflict-preserved
loop-conflict-preserved c =
    let inv = c.loop-conflict.invariant in
    let u = c.propagate.new.trail in
    let a = descends-propagates c.args.trail.now c.args.clauses.now c.loop-conflict.trail c.loop-conflict.clauses c.loop-conflict.watches u
    c.propagate.new.clauses c.propagate.new.watches inv.keeps c.propagate.ensures.keeps in
    let e : u.propagated ≡ length u.literals = c.in_ok-conflict.ensures.none (ap (λ o. is_some o) c.in_default.is) in
    let w : IsTrail (decided u c.literal-literal.result) = rw c.decide.ensures.after at c.decide.ensures.lawful in
    record {
      keeps = rw c.decide.ensures.after (descends-decided c.args.trail.now c.args.clauses.now u c.propagate.new.clauses c.propagate.new.watches a e
          c.literal-literal.result w);
      activity_same = c.next_open.ensures.activity ∙ inv.activity_same;
    }

pub returns-in_err-conflict-clause-keeps : goal.returns-in_err-conflict-clause-keeps
returns-in_err-conflict-clause-keeps c =
    descends-propagates c.args.trail.now c.args.clauses.now c.loop-conflict.trail c.loop-conflict.clauses c.loop-conflict.watches c.propagate.new.trail
    c.propagate.new.clauses c.propagate.new.watches c.loop-conflict.invariant.keeps c.propagate.ensures.keeps

pub returns-in-Some-clause-keeps : goal.returns-in-Some-clause-keeps
returns-in-Some-clause-keeps c =
    descends-propagates c.args.trail.now c.args.clauses.now c.loop-conflict.trail c.loop-conflict.clauses c.loop-conflict.watches c.propagate.new.trail
    c.propagate.new.clauses c.propagate.new.watches c.loop-conflict.invariant.keeps c.propagate.ensures.keeps

pub returns-in-None-clause-keeps : goal.returns-in-None-clause-keeps
returns-in-None-clause-keeps c =
    descends-propagates c.args.trail.now c.args.clauses.now c.loop-conflict.trail c.loop-conflict.clauses c.loop-conflict.watches c.propagate.new.trail
    c.propagate.new.clauses c.propagate.new.watches c.loop-conflict.invariant.keeps c.propagate.ensures.keeps

pub decide-requires-clause-open : goal.decide-requires-clause-open
decide-requires-clause-open c = open-literal c.propagate.new.trail c.literal-literal.result c.in-Some-next_open.variable c.literal-literal.ensures
    c.in-Some-next_open.ensures.found.opens
