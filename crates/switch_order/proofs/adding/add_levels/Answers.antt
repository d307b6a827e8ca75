use Rattle.std.proofs.Common.{◌∙◌, ℕ, ◌+◌, List, ℤ, refl, arith}
use Rattle.bit_order.proofs.Meaning.{literals-mean}
use Rattle.bit_order.proofs.Ranges.{pieces_step}
use Rattle.switch_order.specs.Levels.{rises_from}
use Rattle.switch_order.proofs.adding.add_levels.Goals as goal

pub add_rises_from-requires-clause-start : goal.add_rises_from-requires-clause-start
add_rises_from-requires-clause-start c =
    let there = (literals-mean c.args.layout.now c.requires.order).before_there 0 0 in
    omega (arith, there.0, there.1, c.requires.ordered, c.vars-start.ensures.vars)

pub add_rises_from-requires-clause-befores : goal.add_rises_from-requires-clause-befores
add_rises_from-requires-clause-befores c = λ first second.
    let there = (literals-mean c.args.layout.now c.requires.order).before_there first second in
    omega (arith, there.1, c.requires.ordered, c.add_variables.ensures.vars, c.loop-first.invariant.vars)

pub loop-first-preserved : goal.loop-first-preserved
loop-first-preserved c =
    let f : ℕ → List (List ℤ) = rises_from c.args.layout.now c.args.threads.now c.args.failing (c.vars-start.result + 1) c.args.most in
    let first = c.loop-first.first in
    record {
      vars = c.in_ok-add_rises_from.ensures.vars ∙ c.loop-first.invariant.vars;
      clauses = pieces_step f 0 first first c.add_variables.new.cnf.clauses c.loop-first.cnf.clauses c.add_rises_from.new.cnf.clauses (f first)
          c.loop-first.invariant.clauses c.in_ok-add_rises_from.ensures.clauses refl (omega arith);
      few = omega (arith, c.in_ok-add_rises_from.ensures.few, c.loop-first.invariant.few);
    }
