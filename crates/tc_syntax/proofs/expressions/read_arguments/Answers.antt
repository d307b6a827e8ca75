use Rattle.std.proofs.Common.{[], ◌∷◌, ◌∙◌}
use Rattle.std.proofs.lemmas.Result.{err_from_is_err_and}
use Rattle.tc_lexer.specs.declared.token.Sign.TheVariants.{CloseParen}
use Rattle.tc_syntax.specs.helpers.Reading.{Just, Operand, Operators, Arguments, Others}
use Rattle.tc_syntax.proofs.Stacks.{goes, at_once}
use Rattle.tc_syntax.proofs.Chains.{argument_goes, first_argument, one_more_argument, no_comma}
use Rattle.tc_syntax.proofs.expressions.read_arguments.Goals as goal

pub returns-in_err-first : goal.returns-in_err-first
returns-in_err-first c =
    let p = err_from_is_err_and c.from_residual.result c.from_residual.ensures.1 in
    let here = at_once (Operand ∷ Operators ∷ []) (Others ∷ Just CloseParen ∷ []) c.args.words.now c.in_err-first.field-0.0 c.in_err-first.ensures in
    rw (p.1, p.2) (goes (Arguments ∷ Just CloseParen ∷ []) (Operand ∷ Operators ∷ Others ∷ Just CloseParen ∷ []) c.args.words.now c.args.words.now
    c.in_err-first.field-0.0 (λ s. argument_goes c.args.words.now c.in_default.ensures.1 s) here)

pub loop-start-init : goal.loop-start-init
loop-start-init c =
    let h = first_argument c.args.words.now c.in_ok-first.first c.in_ok-first.rest.now c.in_default.ensures.1 c.in_ok-first.ensures in
    rw (c.in_ok-push.ensures.items, c.new-found.ensures.items) h

pub loop-start-preserved : goal.loop-start-preserved
loop-start-preserved c =
    let h = one_more_argument c.args.words.now c.loop-start.found.items c.loop-start.rest.now c.in-Ok-past.start.now
    c.in_ok-argument.argument c.in_ok-argument.after.now c.loop-start.invariant c.in-Ok-past.ensures.0 c.in_ok-argument.ensures in
    rw (c.in_ok-push-2.ensures.items) h

pub returns-in_err-rest : goal.returns-in_err-rest
returns-in_err-rest c =
    let p = err_from_is_err_and c.from_residual-in_err-rest.result c.from_residual-in_err-rest.ensures.1 in
    rw (p.1, p.2) (goes (Arguments ∷ Just CloseParen ∷ []) (Just CloseParen ∷ []) c.args.words.now c.loop-start.rest.now c.in_err-rest.field-0.0
    (λ s. c.loop-start.invariant.moves s ∙ no_comma c.loop-start.rest.now c.in_default-past.ensures.1 (Just CloseParen ∷ s)) c.in_err-rest.ensures.0)
