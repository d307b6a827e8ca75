use Rattle.std.proofs.Common.{◌≡◌, ◌-◌, length, ap, subst, arith}
use Rattle.tc_tree.specs.Grammar.{IsSyntaxFault}
use Rattle.tc_tree.specs.Words.{words_of}
use Rattle.tc_parser.proofs.Words.{length-words}
use Rattle.next_tokens.proofs.stuck.find_stuck.Goals as goal

pub overflow_sub-place : goal.overflow_sub-place
overflow_sub-place c =
    let left = rw c.in-Some.is at c.in_ok-end.ensures in
    omega (arith, left.0, length-words 4 c.args.text.now c.args.tokens.now)

pub stuck_at-requires-clause-fault : goal.stuck_at-requires-clause-fault
stuck_at-requires-clause-fault c =
    let left = rw c.in-Some.is at c.in_ok-end.ensures in
    subst (IsSyntaxFault 4 (words_of 4 c.args.text.now c.args.tokens.now))
    (ap (λ n. n - c.in-Some.left) (length-words 4 c.args.text.now c.args.tokens.now)) left.1
