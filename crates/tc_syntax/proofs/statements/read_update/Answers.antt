use Rattle.std.proofs.Common.{List, [], ◌∷◌, ap, ◌∙◌}
use Rattle.std.proofs.lemmas.Result.{err_from_is_err_and}
use Rattle.tc_lexer.specs.declared.token.Sign.TheVariants.{OpenParen, CloseParen, Semicolon}
use Rattle.tc_tree.specs.declared.word.Word.{Word}
use Rattle.tc_tree.specs.declared.word.Word.TheVariants.{Sign as ASign}
use Rattle.tc_tree.proofs.Views.{modify_seen}
use Rattle.tc_syntax.specs.helpers.Reading.{Just, AnyName}
use Rattle.tc_syntax.proofs.Stacks.{along, at_once}
use Rattle.tc_syntax.proofs.Updates.{moves_on, stops_at_index, stops_at_operands, stops_at_end, update_read}
use Rattle.tc_syntax.proofs.statements.read_update.Goals as goal

pub returns-in_err-index : goal.returns-in_err-index
returns-in_err-index c =
    let p = err_from_is_err_and c.from_residual-in_err-index.result c.from_residual-in_err-index.ensures.1 in
    let opens = moves_on (Just OpenParen ∷ []) (AnyName ∷ []) c.args.words.now c.in_ok-start.start.now c.in_ok-global.after.now
    c.in_ok-start.ensures.1 c.in_ok-global.ensures.1 in
    rw (p.1, p.2) (stops_at_index c.args.kind c.args.target c.args.words.now c.in_ok-global.after.now c.in_err-index.field-0.0 opens c.in_err-index.ensures)

pub returns-in_err-update : goal.returns-in_err-update
returns-in_err-update c =
    let p = err_from_is_err_and c.from_residual-in_err-update.result c.from_residual-in_err-update.ensures.1 in
    let opens = moves_on (Just OpenParen ∷ []) (AnyName ∷ []) c.args.words.now c.in_ok-start.start.now c.in_ok-global.after.now
    c.in_ok-start.ensures.1 c.in_ok-global.ensures.1 in
    rw (p.1, p.2) (stops_at_operands c.args.kind c.args.target c.args.words.now c.in_ok-global.after.now c.in_ok-index.after.now c.in_err-update.field-0.0
    opens c.in_ok-index.ensures.moves c.in_err-update.ensures)

pub returns-in_err-end : goal.returns-in_err-end
returns-in_err-end c =
    let p = err_from_is_err_and c.from_residual-in_err-end.result c.from_residual-in_err-end.ensures.1 in
    let opens = moves_on (Just OpenParen ∷ []) (AnyName ∷ []) c.args.words.now c.in_ok-start.start.now c.in_ok-global.after.now
    c.in_ok-start.ensures.1 c.in_ok-global.ensures.1 in
    let stops = at_once (Just CloseParen ∷ []) (Just Semicolon ∷ []) c.in_ok-update.end.now c.in_err-end.field-0.0 c.in_err-end.ensures.0 in
    rw (p.1, p.2) (stops_at_end c.args.kind c.args.target c.args.words.now c.in_ok-global.after.now c.in_ok-index.after.now c.in_ok-update.end.now
    c.in_err-end.field-0.0 opens c.in_ok-index.ensures.moves c.in_ok-update.ensures.moves stops)

pub returns-in_err-rest : goal.returns-in_err-rest
returns-in_err-rest c =
    let p = err_from_is_err_and c.from_residual-in_err-rest.result c.from_residual-in_err-rest.ensures.1 in
    let opens = moves_on (Just OpenParen ∷ []) (AnyName ∷ []) c.args.words.now c.in_ok-start.start.now c.in_ok-global.after.now
    c.in_ok-start.ensures.1 c.in_ok-global.ensures.1 in
    let stops = along (Just CloseParen ∷ []) (Just Semicolon ∷ []) [] c.in_ok-update.end.now c.in_ok-end.end.now c.in_err-rest.field-0.0
    c.in_ok-end.ensures.1 c.in_err-rest.ensures.0 in
    rw (p.1, p.2) (stops_at_end c.args.kind c.args.target c.args.words.now c.in_ok-global.after.now c.in_ok-index.after.now c.in_ok-update.end.now
    c.in_err-rest.field-0.0 opens c.in_ok-index.ensures.moves c.in_ok-update.ensures.moves stops)

pub returns : goal.returns
returns c =
    let opens = moves_on (Just OpenParen ∷ []) (AnyName ∷ []) c.args.words.now c.in_ok-start.start.now c.in_ok-global.after.now
    c.in_ok-start.ensures.1 c.in_ok-global.ensures.1 in
    let closes = moves_on (Just CloseParen ∷ []) (Just Semicolon ∷ []) c.in_ok-update.end.now c.in_ok-end.end.now c.in_ok-rest.rest.now
    c.in_ok-end.ensures.1 c.in_ok-rest.ensures.1 in
    let begins = c.in_ok-start.ensures.0 ∙ ap (λ (us : List Word). ASign OpenParen ∷ us) c.in_ok-global.ensures.0 in
    let ends = c.in_ok-end.ensures.0 ∙ ap (λ (us : List Word). ASign CloseParen ∷ us) c.in_ok-rest.ensures.0 in
    let h = update_read c.args.local c.in_ok-global.global c.args.kind c.args.target c.in_ok-index.index c.in_ok-update.update c.args.words.now
    c.in_ok-global.after.now c.in_ok-index.after.now c.in_ok-update.end.now c.in_ok-rest.rest.now begins opens c.in_ok-index.ensures c.in_ok-update.ensures
    ends closes in
    rw (modify_seen c.args.local c.in_ok-global.global c.in_ok-index.index c.in_ok-update.update) h
