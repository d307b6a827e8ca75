use Rattle.std.proofs.Common.{◌≡◌, ◌∙◌, ◌<◌, length, sym, arith}
use Rattle.std.proofs.lemmas.Bool.Decides.{nat_tests}
use Rattle.dimacs_text.specs.Answers.{is_blank}
use Rattle.dimacs_text.proofs.Firsts.{shorter}
use Rattle.dimacs_text.proofs.Readings.{goes_on, stops}
use Rattle.dimacs_text.proofs.said.after_parts.Goals as goal

pub returns-in_default : goal.returns-in_default
returns-in_default c =
    let some : 0 < length c.loop-rest.rest.now = grind (arith, nat_tests) in
    sym (c.loop-rest.invariant
    ∙ stops c.loop-rest.said c.loop-rest.rest.now c.next_part.result.0.now c.next_part.result.1.now some c.next_part.ensures.first c.next_part.ensures.behind
    (sym c.in_default.is ∙ c.in_ok-next.ensures))

pub loop-rest-smaller : goal.loop-rest-smaller
loop-rest-smaller c =
    let some : 0 < length c.loop-rest.rest.now = grind (arith, nat_tests) in
    shorter is_blank c.loop-rest.rest.now c.next_part.result.1.now some c.next_part.ensures.behind

pub loop-rest-preserved : goal.loop-rest-preserved
loop-rest-preserved c =
    let some : 0 < length c.loop-rest.rest.now = grind (arith, nat_tests) in
    c.loop-rest.invariant
    ∙ goes_on c.loop-rest.said c.loop-rest.rest.now c.next_part.result.0.now c.next_part.result.1.now some c.next_part.ensures.first c.next_part.ensures.behind
    c.in-Some.next (sym c.in-Some.is ∙ c.in_ok-next.ensures)
