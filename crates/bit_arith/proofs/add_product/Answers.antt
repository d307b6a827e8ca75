use Rattle.std.proofs.Common.{arith, ◌≡◌, ◌-◌, ◌≤◌, ◌++◌, ◌∙◌, ap, sym, subst, List, ℤ, ℕ, length, take, drop, length-drop, length-append, length-take}
use borrow.Rule.Slice.PartMut.{put_mid}
use Rattle.std.proofs.lemmas.List.Elements.{All-append, All-take}
use Rattle.cnf_core.specs.Clauses.{var_of}
use Rattle.bit_words.specs.Words.{AreWithin}
use Rattle.bit_words.proofs.Loops.{within_more}
use Rattle.bit_arith.specs.Sums.{with_row}
use Rattle.bit_arith.proofs.Rows.{multiplied_more, end_written, end_read, larger_row}
use Rattle.bit_arith.proofs.add_product.Goals as goal

pub loop-place-preserved : goal.loop-place-preserved
loop-place-preserved g c =
    let i : ℕ = c.loop-place.place in
    let ws : List ℤ = c.loop-place.word in
    let next : List ℤ = c.add_row.new.word in
    let le : i ≤ length ws = omega (arith, c.loop-place.invariant.length, c.requires.lengths, c.loop-place-test.true) in
    let mid : take (length ws - i) (drop i ws) ≡ drop i ws = end_read i ws in
    let long : length next ≡ length ws - i = c.in_ok-add_row.ensures.length ∙ ap length mid ∙ length-drop i ws in
    let written : put_mid i (length ws - i) ws next ≡ take i ws ++ next = end_written i ws next le long in
    let short : length (take (length ws - i) (drop i ws)) ≤ g.row.W =
    omega (arith, ap length mid, length-drop i ws, c.loop-place.invariant.length, c.requires.short) in
    record {
      made = multiplied_more _ i c.loop-place.circuit c.add_row.new.circuit ws _ c.args.a.now c.args.b.now c.index-b-place.result c.loop-place.invariant.made
          (omega (arith, c.loop-place.invariant.length, c.requires.lengths, c.loop-place-test.true)) c.loop-place-test.true c.index-b-place.is
          (c.in_ok-add_row.ensures.formula ∙ ap (λ k. (with_row c.loop-place.circuit k c.args.a.now c.index-b-place.result).state) mid)
          (written ∙ ap (λ k. take i ws ++ k)
          (c.in_ok-add_row.ensures.word ∙ ap (λ k. (with_row c.loop-place.circuit k c.args.a.now c.index-b-place.result).word) mid));
      within = subst (AreWithin c.add_row.new.circuit.vars) (sym written) (All-append (λ l. var_of l ≤ c.add_row.new.circuit.vars) (take i ws) next
          (within_more c.loop-place.circuit.vars c.add_row.new.circuit.vars (take i ws) c.in_ok-add_row.ensures.larger.0
          (All-take (λ l. var_of l ≤ c.loop-place.circuit.vars) i ws c.loop-place.invariant.within)) c.in_ok-add_row.ensures.within);
      length = ap length written ∙ omega (arith, length-append (take i ws) next, length-take i ws, long, le, c.loop-place.invariant.length);
      larger = larger_row g.row.W i _ c.args.circuit.now c.loop-place.circuit c.add_row.new.circuit c.loop-place.invariant.larger c.in_ok-add_row.ensures.larger short;
    }
