use Rattle.std.proofs.Common.{◌≡◌, ◌∙◌, ◌∷◌, [], ◌++◌, ℕ, List, false, replicate, ap, rules}
use Rattle.cdcl_learn.proofs.Meeting.{suffices-start}
use Rattle.cdcl_learn.proofs.Starting.{tallies-start, some-start}
use Rattle.cdcl_learn.proofs.conflicts.start.Goals as goal

pub meet-requires-clause-tallies : goal.meet-requires-clause-tallies
meet-requires-clause-tallies c =
    let e : c.in_ok-met.met.items ≡ replicate c.len.result false = search rules in
    tallies-start c.args.trail.now c.in_ok-met.met.items c.len.result c.args.bounds.root c.args.bounds.base c.new.result.items e c.len.ensures.len
    c.new.ensures.items

pub returns-clause-started : goal.returns-clause-started
returns-clause-started c =
    let m = c.in_ok-meet.ensures.meets in
    let h : c.meet.new.self.hints.items ≡ c.args.conflict ∷ [] = c.in_ok-meet.ensures.hints
    ∙ ap (λ (xs : List ℕ). xs ++ c.args.conflict ∷ []) c.new-2.ensures.items in
    record {
      tallies = c.in_ok-meet.ensures.tallies;
      suffices = rw h (suffices-start c.args.trail.now c.args.clauses.now c.in_ok-met.met.items c.meet.new.self.met.items c.args.conflict
          c.requires.conflict.there c.requires.conflict.kept c.requires.conflict.all_false m);
      some = λ conflict. some-start c.args.trail.now c.args.clauses.now c.args.conflict conflict c.in_ok-met.met.items c.meet.new.self.met.items
          c.meet.new.self.pending c.args.bounds.root c.args.bounds.base c.meet.new.self.literals.items m c.in_ok-meet.ensures.tallies;
    }
