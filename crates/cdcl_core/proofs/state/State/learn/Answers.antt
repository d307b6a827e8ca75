use Rattle.std.proofs.Common.{◌≡◌, ◌∙◌, ◌++◌, ◌∷◌, [], ◌*◌, ◌<◌, ℕ, List, Some, length, refl, ap, subst, arith}
use Rattle.std.specs.Prelude.{All}
use Rattle.std.proofs.lemmas.List.Elements.{All-contains}
use Rattle.std.proofs.lemmas.List.{length_push}
use Rattle.refute_check.specs.declared.line.Line.{Line}
use Rattle.cdcl_trail.specs.Trail.{Trail, IsTrail, pushed}
use Rattle.cdcl_clauses.specs.Clauses.{Clause, kept_clause}
use Rattle.cdcl_steps.proofs.OneMore.{sound-assert}
use Rattle.cdcl_steps.proofs.Rooting.{rooted-attach}
use Rattle.cdcl_lines.specs.Lines.{added}
use Rattle.cdcl_lines.specs.Literals.{clause_of}
use Rattle.cdcl_lines.specs.Fresh.{IsFresh}
use Rattle.cdcl_lines.proofs.Freshness.{asserted-fresh}
use Rattle.cdcl_core.specs.Searches.{checked}
use Rattle.cdcl_core.proofs.Agreeing.{agree-learnt}
use Rattle.cdcl_core.proofs.Counts.{begins-push}
use Rattle.cdcl_core.proofs.Going.{hints-within, has-room, live-with, listed-within, both-length}
use Rattle.cdcl_core.proofs.state.State.learn.Goals as goal

pub add_line-requires-clause-within : goal.add_line-requires-clause-within
add_line-requires-clause-within c = λ k d h.
    omega (arith, c.requires.can.within k d h, c.requires.live.variables, c.requires.live.agree.few)

pub add_line-requires-clause-hints : goal.add_line-requires-clause-hints
add_line-requires-clause-hints c = hints-within c.args.self.now.clauses c.args.literals.now c.args.hints.now c.requires.shown
    (has-room c.args.self.now c.requires.live).clauses

pub next_id-clause-requires : goal.next_id-clause-requires
next_id-clause-requires c = omega (arith, (has-room c.args.self.now c.requires.live).clauses)

pub attach-requires-clause-few : goal.attach-requires-clause-few
attach-requires-clause-few c = omega (arith, (has-room c.args.self.now c.requires.live).clauses)

pub attach-requires-clause-first : goal.attach-requires-clause-first
attach-requires-clause-first c = listed-within c.args.self.now c.requires.live c.args.literals.now c.requires.can.within c.args.asserted c.requires.can.has

pub attach-requires-clause-second : goal.attach-requires-clause-second
attach-requires-clause-second c = listed-within c.args.self.now c.requires.live c.args.literals.now c.requires.can.within c.args.beside
    c.requires.can.beside_in

pub imply-requires-clause-within : goal.imply-requires-clause-within
imply-requires-clause-within c = All-contains (λ l. l < 2 * c.args.self.now.trail.variables) c.args.literals.now c.args.asserted c.requires.can.within
    c.requires.can.has

pub detach-requires-clause-first : goal.detach-requires-clause-first
detach-requires-clause-first c =
    let s = c.args.self.now in
    omega (
      arith,
      listed-within s c.requires.live c.args.literals.now c.requires.can.within c.args.asserted c.requires.can.has,
      both-length s.watches (length s.clauses) c.args.asserted c.args.beside,
      ap length c.in_ok-attach.ensures.ok_watches,
    )

pub detach-requires-clause-second : goal.detach-requires-clause-second
detach-requires-clause-second c =
    let s = c.args.self.now in
    omega (
      arith,
      listed-within s c.requires.live c.args.literals.now c.requires.can.within c.args.beside c.requires.can.beside_in,
      both-length s.watches (length s.clauses) c.args.asserted c.args.beside,
      ap length c.in_ok-attach.ensures.ok_watches,
    )

pub returns-in-Ok-clause-live : goal.returns-in-Ok-clause-live
returns-in-Ok-clause-live c =
    let s = c.args.self.now in
    let t : Trail = s.trail in
    let cs : List Clause = s.clauses in
    let ls : List ℕ = c.args.literals.now in
    let hs : List ℕ = c.args.hints.now in
    let a : ℕ = c.args.asserted in
    let b : ℕ = c.args.beside in
    let can = c.requires.can in
    let live = c.requires.live in
    let listed = c.in_ok-attach.ensures.ok_watches in
    let after : c.imply.new.self ≡ pushed t a (Some (length cs)) = c.imply.ensures.after
    ∙ ap (λ (n : ℕ). pushed t a (Some n)) c.next_id-clause.ensures in
    let u : IsTrail (pushed t a (Some (length cs))) = rw after at c.imply.ensures.lawful in
    let line : c.push.new.self ≡ s.derivation ++ added ls hs ∷ [] = c.in-Ok.ensures.ok
    ∙ ap (λ (l : Line). s.derivation ++ l ∷ []) c.in_ok-line.ensures.line in
    let kept : c.touch_all.new.clauses ≡ cs ++ kept_clause ls a b ∷ [] = c.touch_all.ensures ∙ c.touch.ensures ∙ c.in_ok-attach.ensures.ok_clauses in
    let w : All (λ l. l < 2 * s.formula.vars) ls = subst (λ (v : ℕ). All (λ l. l < 2 * v) ls) live.variables can.within in
    let fresh : IsFresh (checked s.formula s.derivation).kept (clause_of ls) =
    asserted-fresh t cs s.watches (checked s.formula s.derivation) ls a b live.sound live.rooted live.agree.represents can in
    record {
      sound = rw (after, kept, listed) (sound-assert t cs s.watches live.sound ls a b can u);
      rooted = rw (after, kept) (rooted-attach t cs ls a b can (Some (length cs)) live.rooted);
      variables = ap (λ (x : Trail). x.variables) after ∙ live.variables;
      activity = live.activity;
      agree = rw (kept, line) (agree-learnt s.formula cs s.derivation s.added s.deleted live.agree c.requires.room c.requires.bound ls hs a b w c.requires.rise
          c.requires.shown can.has fresh);
    }

pub returns-in-Ok-clause-ok : goal.returns-in-Ok-clause-ok
returns-in-Ok-clause-ok c =
    let s = c.args.self.now in
    record {
      formula = refl;
      derivation = rw c.in-Ok.ensures.ok (begins-push s.derivation c.in_ok-line.line);
      longer = omega (arith, ap length c.in-Ok.ensures.ok, length_push s.derivation c.in_ok-line.line);
      added = refl;
    }

pub returns-in-Err-clause-live : goal.returns-in-Err-clause-live
returns-in-Err-clause-live c =
    let s = c.args.self.now in
    live-with s c.requires.live _ refl (c.detach.ensures.clauses s.clauses c.args.literals.now c.in_ok-attach.ensures.ok_clauses)
    (c.detach.ensures.watches s.watches (length s.clauses) c.in_ok-attach.ensures.ok_watches) refl refl c.in-Err.ensures.err refl refl

pub touch-requires : goal.touch-requires
touch-requires c = omega (
  arith,
  c.next_id-clause.ensures,
  ap length c.in_ok-attach.ensures.ok_clauses,
  length_push c.args.self.now.clauses (kept_clause c.args.literals.now c.args.asserted c.args.beside),
)
