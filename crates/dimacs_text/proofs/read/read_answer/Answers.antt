use Rattle.std.proofs.Common.{◌≡◌, ◌∙◌, ◌<◌, length, sym, arith}
use Rattle.std.proofs.lemmas.Bool.Decides.{nat_tests}
use Rattle.dimacs_text.specs.Answers.{is_line_feed}
use Rattle.dimacs_text.proofs.Breaks.{answer_is, break_is}
use Rattle.dimacs_text.proofs.Firsts.{shorter}
use Rattle.dimacs_text.proofs.Readings.{breaks, not_whole_at_end, reads_on, whole_at_end}
use Rattle.dimacs_text.proofs.read.read_answer.Goals as goal

pub returns-in_default-clause-refused : goal.returns-in_default-clause-refused
returns-in_default-clause-refused c =
    let some : 0 < length c.loop-rest.rest.now = grind (arith, nat_tests) in
    break_is c.args.text.now c.loop-rest.number (c.loop-rest.invariant.same
    ∙ breaks c.loop-rest.number c.loop-rest.said c.loop-rest.rest.now c.next_line.result.0.now c.next_line.result.1.now some c.next_line.ensures.first
    c.next_line.ensures.behind (sym c.in_default.is ∙ c.in_ok-next.ensures))

pub loop-rest-smaller : goal.loop-rest-smaller
loop-rest-smaller c =
    let some : 0 < length c.loop-rest.rest.now = grind (arith, nat_tests) in
    shorter is_line_feed c.loop-rest.rest.now c.next_line.result.1.now some c.next_line.ensures.behind

pub loop-rest-preserved : goal.loop-rest-preserved
loop-rest-preserved c =
    let some : 0 < length c.loop-rest.rest.now = grind (arith, nat_tests) in
    let less = shorter is_line_feed c.loop-rest.rest.now c.next_line.result.1.now some c.next_line.ensures.behind in
    record {
      same = c.loop-rest.invariant.same
          ∙ reads_on c.loop-rest.number c.loop-rest.said c.loop-rest.rest.now c.next_line.result.0.now c.next_line.result.1.now some c.next_line.ensures.first
          c.next_line.ensures.behind c.in-Some.next (sym c.in-Some.is ∙ c.in_ok-next.ensures);
      few = omega (arith, c.loop-rest.invariant.few, less);
    }

pub returns-in-Whole-clause-found : goal.returns-in-Whole-clause-found
returns-in-Whole-clause-found c =
    let empty : length c.loop-rest.rest.now ≡ 0 = grind (arith, nat_tests) in
    answer_is c.args.text.now c.in-Whole.literals
    (c.loop-rest.invariant.same ∙ whole_at_end c.loop-rest.number c.loop-rest.said c.loop-rest.rest.now c.in-Whole.literals empty c.in-Whole.is)

pub returns : goal.returns
returns c =
    let empty : length c.loop-rest.rest.now ≡ 0 = grind (arith, nat_tests) in
    record {
      found = tt;
      refused = break_is c.args.text.now c.loop-rest.number
          (c.loop-rest.invariant.same ∙ not_whole_at_end c.loop-rest.number c.loop-rest.said c.loop-rest.rest.now empty
          c.in_default-said.not-Whole);
    }
