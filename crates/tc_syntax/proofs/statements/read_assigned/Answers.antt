use Rattle.std.proofs.Common.{[], ◌∷◌, ◌∙◌}
use Rattle.std.proofs.lemmas.Result.{err_from_is_err_and}
use Rattle.tc_lexer.specs.declared.token.Sign.TheVariants.{Semicolon}
use Rattle.tc_tree.proofs.Views.{assign_seen}
use Rattle.tc_syntax.specs.helpers.Reading.{Just, Operand, Operators, AfterAssign}
use Rattle.tc_syntax.proofs.Stacks.{goes, at_once}
use Rattle.tc_syntax.proofs.Chains.{value_goes, value_read}
use Rattle.tc_syntax.proofs.statements.read_assigned.Goals as goal

pub returns-in_err-value : goal.returns-in_err-value
returns-in_err-value c =
    let p = err_from_is_err_and c.from_residual.result c.from_residual.ensures.1 in
    let here = at_once (Operand ∷ Operators ∷ []) (Just Semicolon ∷ []) c.args.words.now c.in_err-value.field-0.0 c.in_err-value.ensures in
    rw (p.1, p.2) (goes (AfterAssign ∷ []) (Operand ∷ Operators ∷ Just Semicolon ∷ []) c.args.words.now c.args.words.now c.in_err-value.field-0.0
    (λ s. value_goes c.args.words.now c.in_default.ensures c.in_default-past_update.ensures s) here)

pub returns-in_err-rest : goal.returns-in_err-rest
returns-in_err-rest c =
    let p = err_from_is_err_and c.from_residual-in_err-rest.result c.from_residual-in_err-rest.ensures.1 in
    rw (p.1, p.2) (goes (AfterAssign ∷ []) (Just Semicolon ∷ []) c.args.words.now c.in_ok-value.end.now c.in_err-rest.field-0.0
    (λ s. value_goes c.args.words.now c.in_default.ensures c.in_default-past_update.ensures s
    ∙ c.in_ok-value.ensures.moves (Just Semicolon ∷ s)) c.in_err-rest.ensures.0)

pub returns-in_ok-rest : goal.returns-in_ok-rest
returns-in_ok-rest c =
    let h = value_read c.args.name c.args.words.now c.in_ok-value.value c.in_ok-value.end.now c.in_ok-rest.rest.now
    c.in_default.ensures c.in_default-past_update.ensures c.in_ok-value.ensures c.in_ok-rest.ensures.0 in
    rw (assign_seen c.args.name c.in_ok-value.value) h
