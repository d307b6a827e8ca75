use Rattle.std.proofs.Common.{◌≡◌, ◌∙◌, ◌++◌, ◌∷◌, [], ℕ, List, length, refl, ap, arith}
use Rattle.std.proofs.lemmas.List.{length_push}
use Rattle.refute_check.specs.declared.line.Line.{Line}
use Rattle.cdcl_lines.specs.Lines.{deleted}
use Rattle.cdcl_core.proofs.Counts.{begins-push}
use Rattle.cdcl_core.proofs.Dropping.{can-drop, all-within, agree-dropped}
use Rattle.cdcl_core.proofs.Going.{has-room}
use Rattle.cdcl_core.proofs.state.State.drop_all.Goals as goal

pub delete_line-requires-clause-some : goal.delete_line-requires-clause-some
delete_line-requires-clause-some c = λ e. omega (arith, ap length e, c.requires.some)

pub delete_line-requires-clause-clauses : goal.delete_line-requires-clause-clauses
delete_line-requires-clause-clauses c = λ k d h.
    omega (arith, all-within c.args.self.now c.args.chosen.now c.requires.may k d h, (has-room c.args.self.now c.requires.live).clauses)

pub push-requires-clause-room : goal.push-requires-clause-room
push-requires-clause-room c = (has-room c.args.self.now c.requires.live).lines

pub forget_all-requires : goal.forget_all-requires
forget_all-requires c = all-within c.args.self.now c.args.chosen.now c.requires.may

pub returns-clause-live : goal.returns-clause-live
returns-clause-live c =
    let s = c.args.self.now in
    let ks : List ℕ = c.args.chosen.now in
    let live = c.requires.live in
    let f = c.forget_all.ensures in
    let line : c.push.new.self ≡ s.derivation ++ deleted ks ∷ [] = c.in_ok-push.ensures.ok
    ∙ ap (λ (l : Line). s.derivation ++ l ∷ []) c.in_ok-line.ensures.line in
    record {
      sound = f.sound s.trail s.watches (λ k d h. (c.requires.may.each k d h).no_reason) live.sound;
      rooted = f.rooted s.trail live.rooted;
      variables = live.variables;
      activity = live.activity;
      agree = rw (f.after, line) (agree-dropped s.formula s.clauses s.derivation s.added s.deleted live.agree ks (can-drop s ks c.requires.may)
          (λ k d h. (c.requires.may.each k d h).learnt) c.requires.some c.requires.few);
    }

pub returns-clause-further : goal.returns-clause-further
returns-clause-further c =
    let s = c.args.self.now in
    record {
      formula = refl;
      derivation = rw c.in_ok-push.ensures.ok (begins-push s.derivation c.in_ok-line.line);
      longer = omega (arith, ap length c.in_ok-push.ensures.ok, length_push s.derivation c.in_ok-line.line);
      added = omega arith;
    }
