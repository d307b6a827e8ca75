use Rattle.std.proofs.Common.{[], ◌∷◌}
use Rattle.std.proofs.lemmas.Result.{err_from_is_err_and}
use Rattle.tc_lexer.specs.declared.token.Sign.TheVariants.{Assign}
use Rattle.tc_syntax.specs.helpers.Reading.{Just, AfterName}
use Rattle.tc_syntax.proofs.Stacks.{goes}
use Rattle.tc_syntax.proofs.Chains.{name_goes}
use Rattle.tc_syntax.proofs.statements.read_named.Goals as goal

pub returns-in_err-start : goal.returns-in_err-start
returns-in_err-start c =
    let p = err_from_is_err_and c.from_residual.result c.from_residual.ensures.1 in
    rw (p.1, p.2) (goes (AfterName ∷ []) (Just Assign ∷ []) c.args.words.now c.args.words.now c.in_err-start.field-0.0
    (λ s. name_goes c.args.words.now c.in_default.ensures.1 c.in_err-start.ensures.1 s) c.in_err-start.ensures.0)
