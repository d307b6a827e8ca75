use Rattle.std.proofs.Common.{◌∙◌, ◌+◌, ◌++◌, ◌<◌, ◌≤◌, ap, List, [], ◌∷◌, arith, drop, false, get_or, length, sym}
use Rattle.order_formula.specs.declared.formula.Conjunct.{Conjunct}
use Rattle.why_impossible.specs.reached_groups.helpers.Marked.{marked_from}
use Rattle.why_impossible.proofs.reached_groups.Marked.{marked_next, unmarked_next}
use Rattle.why_impossible.proofs.reached_groups.groups.marked_groups.Goals as goal
use Rattle.why_impossible.proofs.reached_groups.groups.marked_groups.Goals.{then-marks-root+in_ok-push, else-marks-root}

pub loop-number-preserved : goal.loop-number-preserved
loop-number-preserved c =
    let b = c.args.blasted.now in
    let marks = c.args.marks.now in
    let formula = c.args.formula.now in
    let n = c.loop-number.number in
    let all = marked_from b marks 0 formula in
    let below : n < length formula = omega (arith, c.loop-number-test.true, ap length c.conjuncts-conjuncts.ensures) in
    let rest = marked_from b marks (n + 1) (drop (n + 1) formula) in
    let root = ap (λ k. get_or marks k false) (sym c.root.ensures.root) in
    let more : n + 1 ≤ length b.clauses.clauses = omega (arith, c.root.ensures.root, c.root.ensures.there, c.requires.conjuncts, below) in
    elim c.if-marks-root.branch [
      | then-marks-root+in_ok-push w ↦ (
        ap (λ gs. gs.items ++ rest) w.groups-is ∙ ap (λ gs. gs ++ rest) w.in_ok-push.ensures.items
            ∙ ap (λ (cs : List Conjunct). (c.loop-number.groups.items ++ (get_or cs n w.index-conjuncts-number.result).group ∷ []) ++ rest)
            c.conjuncts-conjuncts.ensures
            ∙ marked_next b marks formula n all c.loop-number.groups.items c.loop-number.invariant.0 w.index-conjuncts-number.result below
            (root ∙ w.if-marks-root.true),
        more,
      )
      | else-marks-root w ↦ (
        ap (λ gs. gs.items ++ rest) w.groups-is
            ∙ unmarked_next b marks formula n all c.loop-number.groups.items c.loop-number.invariant.0 below (root ∙ w.if-marks-root.false),
        more,
      )
    ]
