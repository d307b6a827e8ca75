use Rattle.std.proofs.Common.{List, subst}
use Rattle.tc_lexer.specs.declared.token.TokenKind.{TokenKind}
use Rattle.next_tokens.specs.Next.{GoesOnWith, all_kinds}
use Rattle.next_tokens.proofs.Picks.{IsSoFar, all_picked, next, start}
use Rattle.next_tokens.proofs.stuck.kinds_after.Goals as goal

pub loop-kind-init : goal.loop-kind-init
loop-kind-init c = start (GoesOnWith c.args.text.now c.args.before.now) all_kinds c.new-found.result.items c.new-found.ensures.items

pub loop-kind-preserved : goal.loop-kind-preserved
loop-kind-preserved c =
    let found = c.loop-kind.found.items in
    next (GoesOnWith c.args.text.now c.args.before.now) all_kinds found c.in-Some.kind c.in-Some.later.now c.push_if.new.found.items c.in_ok-goes_on.goes_on
    c.in_ok-goes_on.ensures c.in_ok-push_if.ensures
    (subst (λ (rest : List TokenKind). IsSoFar (GoesOnWith c.args.text.now c.args.before.now) all_kinds found rest) c.in-Some.ensures c.loop-kind.invariant)

pub returns : goal.returns
returns c =
    let found = c.loop-kind.found.items in
    all_picked (GoesOnWith c.args.text.now c.args.before.now) all_kinds found
    (subst (λ (rest : List TokenKind). IsSoFar (GoesOnWith c.args.text.now c.args.before.now) all_kinds found rest) (rw c.in_default.is at c.first_of.ensures)
    c.loop-kind.invariant)
