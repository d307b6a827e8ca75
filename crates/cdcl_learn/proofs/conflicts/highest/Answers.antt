use Rattle.std.proofs.Common.{◌≡◌, ◌∙◌, ℕ, get_or, inr, ap, arith}
use Rattle.std.proofs.lemmas.List.{get_or_read}
use Rattle.std.proofs.lemmas.List.Elements.{Contains-get_or}
use Rattle.cdcl_literals.specs.Literals.{variable_of}
use Rattle.cdcl_learn.proofs.Turning.{stands_low, false_there, top_more, best_new, best_kept, highest_found}
use Rattle.cdcl_learn.proofs.conflicts.highest.Goals as goal
use Rattle.cdcl_learn.proofs.conflicts.highest.Goals.{then-place-top, else-place-top}

pub place-place-requires-clause-within : goal.place-place-requires-clause-within
place-place-requires-clause-within c =
    let x : ℕ = get_or c.args.literals.now c.loop-literal.literal-index 0 in
    let e : c.literal-item.result ≡ get_or c.args.literals.now c.loop-literal.literal-index 0 =
    get_or_read c.args.literals.now c.loop-literal.literal-index c.literal-item.result c.loop-literal-test.true c.literal-item.is 0 in
    rw e ((stands_low c.args.trail.now c.requires.lawful c.requires.levels c.args.literals.now c.requires.lower x
    (Contains-get_or c.args.literals.now c.loop-literal.literal-index 0 c.loop-literal-test.true)).in_range)

pub place-place-requires-clause-there : goal.place-place-requires-clause-there
place-place-requires-clause-there c =
    let x : ℕ = get_or c.args.literals.now c.loop-literal.literal-index 0 in
    let e : c.literal-item.result ≡ get_or c.args.literals.now c.loop-literal.literal-index 0 =
    get_or_read c.args.literals.now c.loop-literal.literal-index c.literal-item.result c.loop-literal-test.true c.literal-item.is 0 in
    rw e (inr (false_there c.args.trail.now x (stands_low c.args.trail.now c.requires.lawful c.requires.levels c.args.literals.now c.requires.lower x
    (Contains-get_or c.args.literals.now c.loop-literal.literal-index 0 c.loop-literal-test.true))))

pub loop-literal-preserved : goal.loop-literal-preserved
loop-literal-preserved c =
    let t = c.args.trail.now in
    let ls = c.args.literals.now in
    let i : ℕ = c.loop-literal.literal-index in
    let s = c.loop-literal.invariant in
    let il = c.loop-literal-test.true in
    let p = c.place-place.ensures in
    let e : c.literal-item.result ≡ get_or ls i 0 = get_or_read ls i c.literal-item.result il c.literal-item.is 0 in
    let there = p.there ∙ ap variable_of e in
    elim c.if-place-top.branch [
      | then-place-top w ↦ rw (w.best-is, w.top-is, e) (record {
        best = best_new t ls i c.place-place.result il p.within there;
        top =
            top_more t c.requires.lawful ls i c.loop-literal.top c.place-place.result c.place-place.result il p.within there w.if-place-top.true
            (omega arith) s.top;
      })
      | else-place-top w ↦ rw (w.best-is, w.top-is) (record {
        best = best_kept t ls i c.loop-literal.top c.place-place.result c.loop-literal.best il w.if-place-top.false s.best;
        top =
            top_more t c.requires.lawful ls i c.loop-literal.top c.place-place.result c.loop-literal.top il p.within there (omega arith)
            (omega (arith, w.if-place-top.false)) s.top;
      })
    ]

pub returns : goal.returns
returns c = highest_found c.args.trail.now c.requires.lawful c.args.literals.now c.loop-literal.literal-index c.loop-literal.top c.loop-literal.best
    c.loop-literal-test.false c.loop-literal.invariant.best c.loop-literal.invariant.top
