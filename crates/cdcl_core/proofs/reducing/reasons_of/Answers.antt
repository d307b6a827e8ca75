use Rattle.std.proofs.Common.{◌≡◌, ◌<◌, ◌∙◌, ℕ, Some, None, rules, length, get_or, sym, arith}
use Rattle.cdcl_core.proofs.Dropping.{marks-start, marks-more, marks-none}
use Rattle.cdcl_core.proofs.reducing.reasons_of.Goals as goal
use Rattle.cdcl_core.proofs.reducing.reasons_of.Goals.{in-Some, in_default}

pub loop-place-init : goal.loop-place-init
loop-place-init c = marks-start c.args.trail.now c.args.clauses c.in_ok-marks.marks.items (search rules)

pub loop-place-preserved : goal.loop-place-preserved
loop-place-preserved c =
    let t = c.args.trail.now in
    let n : ℕ = c.args.clauses in
    let p : ℕ = c.loop-place.place in
    let inv = c.loop-place.invariant in
    let pl : p < length t.literals = omega (arith, c.len-place-end.ensures.len) in
    elim c.match-reason.branch [
      | in-Some w ↦
          let e : get_or t.reasons p None ≡ Some w.in-Some.reason = sym c.reason.ensures ∙ w.in-Some.is in
          rw (w.marks-is, w.index.ensures.index) (marks-more t n p c.loop-place.marks.items w.in-Some.reason inv e (c.requires p w.in-Some.reason pl e))
      | in_default w ↦ rw w.marks-is (marks-none t n p c.loop-place.marks.items inv (sym c.reason.ensures ∙ w.in_default.is))
    ]
