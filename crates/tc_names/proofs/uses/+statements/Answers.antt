use Rattle.std.proofs.Common.{refl}
use Rattle.std.proofs.lemmas.Result.{err_from_is_err_and}
use Rattle.tc_names.specs.helpers.Answers.{plain_scope}
use Rattle.tc_tree.proofs.Views.{store_seen, modify_seen, block_seen}
use Rattle.tc_names.proofs.Chains.{if_first, if_others, if_last, create_arguments}
use Rattle.tc_names.proofs.uses.+statements.Goals as goal

pub check_statement-returns-in_err-check_expression-in-Store : goal.check_statement-returns-in_err-check_expression-in-Store
check_statement-returns-in_err-check_expression-in-Store t c =
    let p = err_from_is_err_and c.from_residual-in_err-check_expression-in-Store.result c.from_residual-in_err-check_expression-in-Store.ensures.1 in
    rw (
      p.1,
      p.2,
      c.in-Store.is,
      store_seen c.in-Store.array c.in-Store.index c.in-Store.value,
      c.in_ok-check_meaning-in-Store.ensures,
      c.in_err-check_expression-in-Store.ensures,
    ) refl

pub check_statement-returns-in_ok-check_expression-in-Store : goal.check_statement-returns-in_ok-check_expression-in-Store
check_statement-returns-in_ok-check_expression-in-Store t c =
    rw (
      c.in-Store.is,
      store_seen c.in-Store.array c.in-Store.index c.in-Store.value,
      c.in_ok-check_meaning-in-Store.ensures,
      c.in_ok-check_expression-in-Store.ensures,
    ) c.check_expression-in-Store-2.ensures

pub check_statement-returns-in_err-check_target-in-Modify : goal.check_statement-returns-in_err-check_target-in-Modify
check_statement-returns-in_err-check_target-in-Modify t c =
    let p = err_from_is_err_and c.from_residual-in_err-check_target-in-Modify.result c.from_residual-in_err-check_target-in-Modify.ensures.1 in
    rw (
      p.1,
      p.2,
      c.in-Modify.is,
      modify_seen c.in-Modify.local c.in-Modify.target c.in-Modify.index c.in-Modify.update,
      c.in_ok-check_meaning-in-Modify.ensures,
      c.in_err-check_target-in-Modify.ensures,
    ) refl

pub check_statement-returns-in_ok-check_target-in-Modify : goal.check_statement-returns-in_ok-check_target-in-Modify
check_statement-returns-in_ok-check_target-in-Modify t c =
    rw (
      c.in-Modify.is,
      modify_seen c.in-Modify.local c.in-Modify.target c.in-Modify.index c.in-Modify.update,
      c.in_ok-check_meaning-in-Modify.ensures,
      c.in_ok-check_target-in-Modify.ensures,
    ) c.check_operands.ensures

pub check_statement-returns-in_err-check_branch-in-If : goal.check_statement-returns-in_err-check_branch-in-If
check_statement-returns-in_err-check_branch-in-If t c =
    let p = err_from_is_err_and c.from_residual-in_err-check_branch-in-If.result c.from_residual-in_err-check_branch-in-If.ensures.1 in
    let h = if_first (plain_scope c.args.scope) c.in-If.branch c.in-If.others c.in-If.last c.in_err-check_branch-in-If.field-0.0
    c.in_err-check_branch-in-If.ensures in
    rw (p.1, p.2, c.in-If.is) h

pub check_statement-returns-in_err-check_branches-in-If : goal.check_statement-returns-in_err-check_branches-in-If
check_statement-returns-in_err-check_branches-in-If t c =
    let p = err_from_is_err_and c.from_residual-in_err-check_branches-in-If.result c.from_residual-in_err-check_branches-in-If.ensures.1 in
    let bad = rw c.as_slice-in-If.ensures.value at c.in_err-check_branches-in-If.ensures in
    let h = if_others (plain_scope c.args.scope) c.in-If.branch c.in-If.others c.in-If.last c.in_err-check_branches-in-If.field-0.0
    c.in_ok-check_branch-in-If.ensures bad in
    rw (p.1, p.2, c.in-If.is) h

pub check_statement-returns-in_ok-check_thread-in-Create : goal.check_statement-returns-in_ok-check_thread-in-Create
check_statement-returns-in_ok-check_thread-in-Create t c =
    let good = rw (c.len.ensures, c.in-Create.arguments.ok.0) at c.in_ok-check_thread-in-Create.ensures in
    let h = create_arguments (plain_scope c.args.scope) c.in-Create.handle c.in-Create.thread c.in-Create.arguments
    c.in_ok-check_meaning-in-Create.ensures good in
    let told = rw c.as_slice.ensures.value at c.check_expressions.ensures in
    rw (c.in-Create.is, h) told

pub check_statement-returns-in-Some : goal.check_statement-returns-in-Some
check_statement-returns-in-Some t c =
    let good = rw c.as_slice-in-If.ensures.value at c.in_ok-check_branches-in-If.ensures in
    let h = if_last (plain_scope c.args.scope) c.in-If.branch c.in-If.others c.in-If.last c.in_ok-check_branch-in-If.ensures good in
    let told = rw c.as_slice-in-Some.ensures.value at c.check_statements.ensures in
    rw (c.in-If.is, h, c.in-Some.is, block_seen c.in-Some.block) told

pub check_statement-returns-in-None : goal.check_statement-returns-in-None
check_statement-returns-in-None t c =
    let good = rw c.as_slice-in-If.ensures.value at c.in_ok-check_branches-in-If.ensures in
    let h = if_last (plain_scope c.args.scope) c.in-If.branch c.in-If.others c.in-If.last c.in_ok-check_branch-in-If.ensures good in
    rw (c.in-If.is, h, c.in-None.is)
