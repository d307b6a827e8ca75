use Rattle.std.proofs.Common.{◌≡◌, ◌-◌, ◌∙◌, ◌∷◌, [], ◌++◌, List, ℕ, length, get_or, reverse, ap, sym, subst}
use Rattle.std.proofs.lemmas.List.Elements.{Contains-get_or}
use Rattle.std.specs.Prelude.{Contains, All}
use Rattle.cdcl_literals.specs.Literals.{opposite_of}
use Rattle.cdcl_learn.specs.Shown.{Shows}
use Rattle.cdcl_learn.specs.Lessons.{TurnFits}
use Rattle.cdcl_learn.specs.helpers.Starts.{AreLower, Turns}
use Rattle.cdcl_learn.proofs.Ending.{IsEnded, learnt_false, learnt_shown, fits, are_lower}
use Rattle.cdcl_learn.proofs.conflicts.analyze.Goals as goal

pub turn-turn-requires-clause-lower : goal.turn-turn-requires-clause-lower
turn-turn-requires-clause-lower c =
    let t = c.args.trail.now in
    let a = c.clear_root.new.self in
    let base : c.start-2.result ≡ get_or t.starts (length t.starts - 1) 0 = c.start-2.ensures ∙ ap (λ (n : ℕ). get_or t.starts (n - 1) 0) c.levels.ensures in
    subst (λ (ls : List ℕ). AreLower t ls) (sym c.as_slice.ensures.value)
    (are_lower t a.met.items a.pending c.start.result c.start-2.result a.literals.items c.in_ok-clear_root.ensures.tallies base)

pub returns-clause-lesson : goal.returns-clause-lesson
returns-clause-lesson c =
    let t = c.args.trail.now in
    let a = c.clear_root.new.self in
    let ls : List ℕ = a.literals.items in
    let x : ℕ = c.opposite-asserted.result in
    let base : c.start-2.result ≡ get_or t.starts (length t.starts - 1) 0 = c.start-2.ensures ∙ ap (λ (n : ℕ). get_or t.starts (n - 1) 0) c.levels.ensures in
    let e : IsEnded t a.met.items c.uip.new.self.met.items a.pending c.start.result c.start-2.result c.in_ok-uip.uip x ls = record {
      tallies = c.in_ok-clear_root.ensures.tallies;
      cleared = c.in_ok-clear_root.ensures.cleared;
      last = c.in_ok-uip.ensures.last;
      asserted_is = c.opposite-asserted.ensures ∙ ap opposite_of c.literal.ensures;
      base_is = base;
    } in
    let turn : Turns t ls x c.turn-turn.result = subst (λ (xs : List ℕ). Turns t xs x c.turn-turn.result) c.as_slice.ensures.value c.turn-turn.ensures in
    let p : c.push.new.self.items ≡ ls ++ x ∷ [] = c.in_ok-push.ensures.items in
    let r : c.reverse.new.self.items ≡ reverse a.hints.items = c.reverse.ensures.items in
    record {
      all_false = subst (λ (xs : List ℕ). All (λ y. Contains t.literals (opposite_of y)) xs) (sym p)
          (λ k d h. learnt_false t a.met.items c.uip.new.self.met.items a.pending c.start.result c.start-2.result c.in_ok-uip.uip x ls e
          (get_or (ls ++ x ∷ []) k d) (Contains-get_or (ls ++ x ∷ []) k d h));
      shown = subst (λ (xs : List ℕ). Shows c.args.clauses.now xs c.reverse.new.self.items) (sym p)
          (subst (λ (hs : List ℕ). Shows c.args.clauses.now (ls ++ x ∷ []) hs) (sym r)
          (learnt_shown t c.args.clauses.now a.met.items c.uip.new.self.met.items a.pending c.start.result c.start-2.result c.in_ok-uip.uip x ls
          a.hints.items e c.in_ok-clear_root.ensures.suffices));
      turn = subst (λ (xs : List ℕ). TurnFits t xs c.turn-turn.result) (sym p)
          (fits t c.requires.lawful a.met.items c.uip.new.self.met.items a.pending c.start.result c.start-2.result c.in_ok-uip.uip x ls e
          c.turn-turn.result turn);
    }
