use Rattle.std.proofs.Common.{◌≡◌, ◌∙◌, ℕ, List, length, Some, ap, arith}
use Rattle.cdcl_trail.specs.Trail.{Trail, IsTrail, pushed}
use Rattle.cdcl_clauses.specs.Clauses.{Clause}
use Rattle.cdcl_steps.proofs.Loads.{
  loaded-clause,
  sound-loaded,
  sound-loaded_unit,
  rooted-two,
  rooted-true,
  rooted-unit,
  first-is,
  one_apart,
}
use Rattle.cdcl_steps.proofs.loading.load_clause.Goals as goal

pub returns-then-literals-gt1-clause-sound : goal.returns-then-literals-gt1-clause-sound
returns-then-literals-gt1-clause-sound c = rw (c.in_ok-attach.ensures.ok_clauses, c.in_ok-attach.ensures.ok_watches)
    (sound-loaded c.args.trail.now c.args.clauses.now c.args.watches.now c.requires.sound c.requires.start c.args.literals.now
    c.watched-first.result.0 c.watched-first.result.1 (loaded-clause c.args.trail.now.variables c.args.literals.now
    c.watched-first.result.0 c.watched-first.result.1 c.requires.literals c.watched-first.ensures))

pub returns-in-True-clause-sound : goal.returns-in-True-clause-sound
returns-in-True-clause-sound c = rw (c.in_ok-attach.ensures.ok_clauses, c.in_ok-attach.ensures.ok_watches)
    (sound-loaded c.args.trail.now c.args.clauses.now c.args.watches.now c.requires.sound c.requires.start c.args.literals.now
    c.watched-first.result.0 c.watched-first.result.1 (loaded-clause c.args.trail.now.variables c.args.literals.now
    c.watched-first.result.0 c.watched-first.result.1 c.requires.literals c.watched-first.ensures))

pub returns-in-False-clause-sound : goal.returns-in-False-clause-sound
returns-in-False-clause-sound c = rw (c.in_ok-attach.ensures.ok_clauses, c.in_ok-attach.ensures.ok_watches)
    (sound-loaded c.args.trail.now c.args.clauses.now c.args.watches.now c.requires.sound c.requires.start c.args.literals.now
    c.watched-first.result.0 c.watched-first.result.1 (loaded-clause c.args.trail.now.variables c.args.literals.now
    c.watched-first.result.0 c.watched-first.result.1 c.requires.literals c.watched-first.ensures))

pub returns-then-literals-gt1-clause-loads : goal.returns-then-literals-gt1-clause-loads
returns-then-literals-gt1-clause-loads c =
    let ls : List ℕ = c.args.literals.now in
    let apart = one_apart ls c.watched-first.result.0 c.watched-first.result.1 c.args.trail.now.variables c.requires.literals c.watched-first.ensures
    c.if-literals-gt1.true in
    λ r. rw c.in_ok-attach.ensures.ok_clauses
    (rooted-two c.args.trail.now c.args.clauses.now ls c.watched-first.result.0 c.watched-first.result.1 apart r)

pub returns-in-True-clause-loads : goal.returns-in-True-clause-loads
returns-in-True-clause-loads c = λ r. rw c.in_ok-attach.ensures.ok_clauses
    (rooted-true c.args.trail.now c.args.clauses.now c.args.literals.now c.watched-first.result.0 c.watched-first.result.1 c.requires.start
    c.in-True.ensures.there r)

pub returns-in-Open-clause-sound : goal.returns-in-Open-clause-sound
returns-in-Open-clause-sound c =
    let ls : List ℕ = c.args.literals.now in
    let t : Trail = c.args.trail.now in
    let cs : List Clause = c.args.clauses.now in
    let a : ℕ = c.watched-first.result.0 in
    let b : ℕ = c.watched-first.result.1 in
    let after : c.imply.new.self ≡ pushed t a (Some (length cs)) = c.imply.ensures.after ∙ ap (λ (n : ℕ). pushed t a (Some n)) c.next_id-clause.ensures in
    let u : IsTrail (pushed t a (Some (length cs))) = rw after at c.imply.ensures.lawful in
    let single : length ls ≡ 1 = omega (arith, c.requires.literals.some, c.if-literals-gt1.false) in
    rw (after, c.in_ok-attach.ensures.ok_clauses, c.in_ok-attach.ensures.ok_watches) (sound-loaded_unit t cs c.args.watches.now c.requires.sound c.requires.start ls a b
    (loaded-clause t.variables ls a b c.requires.literals c.watched-first.ensures) (first-is ls a single c.watched-first.ensures.first) u)

pub returns-in-Open-clause-loads : goal.returns-in-Open-clause-loads
returns-in-Open-clause-loads c =
    let t : Trail = c.args.trail.now in
    let cs : List Clause = c.args.clauses.now in
    let a : ℕ = c.watched-first.result.0 in
    let after : c.imply.new.self ≡ pushed t a (Some (length cs)) = c.imply.ensures.after ∙ ap (λ (n : ℕ). pushed t a (Some n)) c.next_id-clause.ensures in
    λ r. rw (after, c.in_ok-attach.ensures.ok_clauses)
    (rooted-unit t cs c.args.literals.now a c.watched-first.result.1 (Some (length cs)) c.requires.start r)
