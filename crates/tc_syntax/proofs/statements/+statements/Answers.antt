use Rattle.std.proofs.Common.{[], ◌∷◌, ◌∙◌, List, map, ap}
use Rattle.std.proofs.lemmas.Result.{err_from_is_err_and}
use Rattle.std.proofs.lemmas.List.{map-append}
use Rattle.tc_lexer.specs.declared.token.Keyword.TheVariants.{Else}
use Rattle.tc_lexer.specs.declared.token.Sign.TheVariants.{OpenBrace}
use Rattle.tc_tree.specs.declared.word.Word.{Word}
use Rattle.tc_tree.specs.declared.word.Word.TheVariants.{Keyword}
use Rattle.tc_tree.specs.Seen.{statement_of, branch_of, block_of}
use Rattle.tc_syntax.specs.helpers.Reading.{Just, Statements, End, Alternative}
use Rattle.tc_syntax.proofs.Stacks.{goes}
use Rattle.tc_syntax.proofs.Chains.{one_more_statement, one_more_branch, else_goes, block_goes, no_last, one_last}
use Rattle.tc_syntax.proofs.statements.+statements.Goals as goal

pub read_statements-loop-alloc-preserved : goal.read_statements-loop-alloc-preserved
read_statements-loop-alloc-preserved t c =
    let h = one_more_statement c.args.words.now (map statement_of c.loop-alloc.found.items) c.loop-alloc.rest.now
    (statement_of c.in_ok-statement.statement) c.in_ok-statement.after.now c.loop-alloc.invariant c.in_ok-statement.ensures in
    rw (c.in_ok-push.ensures.items, map-append statement_of c.loop-alloc.found.items (c.in_ok-statement.statement ∷ [])) h

pub read_otherwise-loop-after-preserved : goal.read_otherwise-loop-after-preserved
read_otherwise-loop-after-preserved t c =
    let is = c.in-Some.ensures ∙ ap (λ (us : List Word). Keyword Else ∷ us) c.in-Some-past_if.ensures in
    let h = one_more_branch c.args.words.now (map branch_of c.loop-after.others.items) c.loop-after.rest.now c.in-Some-past_if.start.now
    c.in-Some-past_if.place (branch_of c.in_ok-branch.branch) c.in_ok-branch.end.now c.loop-after.invariant is c.in_ok-branch.ensures in
    rw (c.in_ok-push.ensures.items, map-append branch_of c.loop-after.others.items (c.in_ok-branch.branch ∷ [])) h

pub read_otherwise-returns-in_err-block : goal.read_otherwise-returns-in_err-block
read_otherwise-returns-in_err-block t c =
    let p = err_from_is_err_and c.from_residual-in_err-block.result c.from_residual-in_err-block.ensures.1 in
    rw (p.1, p.2) (goes (Alternative ∷ []) (Just OpenBrace ∷ Statements ∷ End ∷ []) c.args.words.now c.in-Some.after.now c.in_err-block.field-0.0
    (λ s. else_goes c.args.words.now (map branch_of c.loop-after.others.items) c.loop-after.rest.now c.in-Some.after.now c.loop-after.invariant
    c.in-Some.ensures s ∙ block_goes c.in-Some.after.now c.in_default-past_if.ensures s) c.in_err-block.ensures)

pub read_otherwise-returns-in_default-past_if : goal.read_otherwise-returns-in_default-past_if
read_otherwise-returns-in_default-past_if t c =
    one_last c.args.words.now (map branch_of c.loop-after.others.items) c.loop-after.rest.now c.in-Some.after.now (block_of c.in_ok-block.block)
    c.in_ok-block.rest.now c.loop-after.invariant c.in-Some.ensures c.in_default-past_if.ensures c.in_ok-block.ensures

pub read_otherwise-returns : goal.read_otherwise-returns
read_otherwise-returns t c = no_last c.args.words.now (map branch_of c.loop-after.others.items) c.loop-after.rest.now c.loop-after.invariant
    c.in_default.ensures
