use Rattle.std.proofs.Common.{◌≡◌, ◌<◌, ◌∙◌, ℕ, List, length, get_or, ap, subst}
use Rattle.std.specs.Prelude.{Contains}
use Rattle.std.proofs.lemmas.List.{get_or_read}
use Rattle.std.proofs.lemmas.List.Elements.{Contains-get_or}
use Rattle.cdcl_literals.specs.Literals.{variable_of}
use Rattle.cdcl_clauses.specs.Clauses.{at}
use Rattle.cdcl_learn.proofs.Meeting.{meets_more}
use Rattle.cdcl_learn.proofs.analysis.Analysis.meet.Goals as goal

pub place-place-requires-clause-there : goal.place-place-requires-clause-there
place-place-requires-clause-there c =
    let x : ℕ = get_or c.literals-literal-items.result.now c.loop-literal.literal-index 0 in
    let e : c.literal-item.result ≡ x =
    get_or_read c.literals-literal-items.result.now c.loop-literal.literal-index c.literal-item.result c.loop-literal-test.true c.literal-item.is 0 in
    rw e (c.requires.there x (subst (λ (ls : List ℕ). Contains ls x) c.literals-literal-items.ensures
    (Contains-get_or c.literals-literal-items.result.now c.loop-literal.literal-index 0 c.loop-literal-test.true)))

pub loop-literal-preserved : goal.loop-literal-preserved
loop-literal-preserved c =
    let inv = c.loop-literal.invariant in
    let i : ℕ = c.loop-literal.literal-index in
    let same : c.literals-literal-items.result.now ≡ (at c.args.clauses.now c.args.clause).literals = c.literals-literal-items.ensures in
    let il : i < length (at c.args.clauses.now c.args.clause).literals = subst (λ (ls : List ℕ). i < length ls) same c.loop-literal-test.true in
    let e : c.literal-item.result ≡ get_or c.literals-literal-items.result.now i 0 =
    get_or_read c.literals-literal-items.result.now i c.literal-item.result c.loop-literal-test.true c.literal-item.is 0 in
    record {
      activity_same = c.bump.ensures ∙ inv.activity_same;
      tallies = c.mark.ensures.tallies;
      meets = meets_more c.args.trail.now c.requires.lawful c.args.self.now.met.items c.loop-literal.self.met.items c.mark.new.self.met.items
          (at c.args.clauses.now c.args.clause).literals i c.place-place.result il c.place-place.ensures.within
          (c.place-place.ensures.there ∙ ap variable_of e ∙ ap (λ (ls : List ℕ). variable_of (get_or ls i 0)) same) inv.meets c.in_ok-mark.ensures.marks;
      hints = c.mark.ensures.hints ∙ inv.hints;
    }
