use Rattle.std.proofs.Common.{◌≡◌, ℕ, ◌+◌, ◌-◌, ◌≤◌, List, ◌++◌, ℤ, ap, ◌∙◌, arith}
use Rattle.std.specs.List.{flat_map, range_with_len}
use Rattle.bit_order.specs.Comparators.{before_literal, comparator, where_asked, transitive}
use Rattle.bit_order.proofs.Ranges.{pieces_step}
use Rattle.bit_order.proofs.layout.Layout.add_thirds.Goals as goal

pub loop-third-preserved : goal.loop-third-preserved
loop-third-preserved c =
    let y = c.args.self.now in
    let p = c.args.pair in
    let third = c.loop-third.third in
    let a : ℕ = p.greater + 1 in
    let from : a ≤ third = omega (arith, c.loop-third.auto.third) in
    let one_more : (third - a) + 1 ≡ (third + 1) - a = omega (arith, from) in
    let old = c.args.circuit.now.clauses in
    let piece : List (List ℤ) = where_asked c.before-first.result c.comparator-second.result c.comparator-both.result in
    let is : piece ≡ transitive y p third =
    ap (λ l. where_asked l c.comparator-second.result c.comparator-both.result) c.before-first.ensures
    ∙ ap (λ o. where_asked (before_literal y p.lesser p.greater) o c.comparator-both.result) c.comparator-second.ensures
    ∙ ap (where_asked (before_literal y p.lesser p.greater) (comparator y p.greater third)) c.comparator-both.ensures in
    record {
      vars = c.in_ok-add_where_asked.ensures.vars ∙ c.loop-third.invariant.vars;
      clauses = pieces_step (transitive y p) a (third - a) third old c.loop-third.circuit.clauses c.add_where_asked.new.circuit.clauses piece
          c.loop-third.invariant.clauses c.in_ok-add_where_asked.ensures.clauses is (omega (arith, from))
          ∙ ap (λ n. old ++ flat_map (transitive y p) (range_with_len a n)) one_more;
      few = omega (arith, c.in_ok-add_where_asked.ensures.few, c.loop-third.invariant.few, one_more);
    }
