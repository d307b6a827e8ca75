use Rattle.std.proofs.Common.{◌≡◌, ◌∙◌, ℕ, suc, ◌+◌, List, [], ◌∷◌, ℤ, neg_ℤ, ap, arith}
use Rattle.cnf_core.specs.Clauses.{Formula}
use Rattle.bit_order.specs.Clauses.{folded_clause}
use Rattle.bit_order.proofs.Ranges.{pieces_step}
use Rattle.switch_order.specs.Levels.{level_literal}
use Rattle.switch_order.specs.helpers.Within.{rise_of}
use Rattle.switch_order.proofs.adding.add_rises.Goals as goal

pub loop-least-preserved : goal.loop-least-preserved
loop-least-preserved c =
    let start = c.args.start in
    let most = c.args.most in
    let least = c.loop-least.least in
    let f : ℕ → List (List ℤ) = rise_of c.args.before c.args.counts start most c.args.first c.args.second in
    let a = neg_ℤ c.args.before in
    let b = neg_ℤ c.args.counts in
    let low = neg_ℤ (level_literal start most c.args.first least) in
    let two = c.opposite-in-loop-least.result in
    let three = c.opposite-in-loop-least-2.result in
    let high = c.level-high.result in
    let piece : List (List ℤ) = folded_clause (c.opposite.result ∷ two ∷ three ∷ high ∷ []) in
    let next : least + 1 ≡ suc least = omega arith in
    let is : piece ≡ f least =
    ap (λ l. folded_clause (l ∷ two ∷ three ∷ high ∷ [])) c.opposite.ensures
    ∙ ap (λ l. folded_clause (a ∷ l ∷ three ∷ high ∷ [])) c.opposite-in-loop-least.ensures
    ∙ ap (λ l. folded_clause (a ∷ b ∷ l ∷ high ∷ [])) (c.opposite-in-loop-least-2.ensures ∙ ap neg_ℤ c.level-low.ensures.literal)
    ∙ ap (λ l. folded_clause (a ∷ b ∷ low ∷ l ∷ [])) (c.level-high.ensures.literal ∙ ap (level_literal start most c.args.second) next) in
    let ok = c.in_ok-add_clause.ensures.ok in
    record {
      vars = ap (λ (k : Formula). k.vars) ok ∙ c.loop-least.invariant.vars;
      clauses = pieces_step f 0 least least c.args.cnf.now.clauses c.loop-least.cnf.clauses c.add_clause.new.cnf.clauses piece
          c.loop-least.invariant.clauses (ap (λ (k : Formula). k.clauses) ok) is (omega arith);
      few = omega (arith, c.in_ok-add_clause.ensures.few, c.loop-least.invariant.few);
    }
