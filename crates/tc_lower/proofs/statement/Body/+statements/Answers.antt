use Rattle.std.proofs.Common.{
  ◌≡◌,
  ◌+◌,
  ◌<◌,
  ◌≤◌,
  get_or,
  length-append,
  [],
  ◌∷◌,
  ◌++◌,
  length,
  map,
  drop,
  option_map,
  OnOk,
  refl,
  sym,
  ap,
  subst,
  ◌∙◌,
  arith,
  rules,
}
use Rattle.tc_code.specs.declared.instr.Instr.TheVariants.{Goto}
use Rattle.tc_tree.specs.declared.statement.Statement.{the_lemmas}
use Rattle.tc_tree.specs.Seen.{statement_of, branch_of, block_of, otherwise_of}
use Rattle.tc_lower.specs.declared.statement.Body.{Body}
use Rattle.tc_lower.specs.Statements.{
  Lowered,
  action,
  wait,
  barrier,
  assigned,
  stored,
  created,
  modified,
  asserted,
  lowered,
  all_lowered,
  lowered_otherwise,
  goes_on,
  passing,
}
use Rattle.tc_tree.specs.helpers.Parts.{statements_seen}
use Rattle.tc_lower.specs.helpers.Bodies.{IsReady, IsWritten, test_of, body_of, jump_place, Below, filled}
use Rattle.tc_lower.specs.helpers.Seen.{plain_scope, IsAdded}
use Rattle.tc_lower.proofs.Chains.{
  marked,
  statement_ready,
  branch_size,
  inner_size,
  branch_ended,
  open_size,
  loop_size,
  first_ready,
  chain_begins,
  next_ready,
  chain_goes_on,
  last_ready,
  last_written,
  all_written,
}
use Rattle.tc_tree.proofs.Views.{
  assign_seen,
  store_seen,
  create_seen,
  modify_seen,
  act_seen,
  wait_seen,
  order_seen,
  assert_seen,
}
use Rattle.tc_lower.proofs.statement.Body.+statements.Goals as goal

pub write-returns-in_ok-assign-in-Assign : goal.write-returns-in_ok-assign-in-Assign
write-returns-in_ok-assign-in-Assign t c =
    let old = c.args.self.now in
    let mid : Body = record { code = c.assign.new.self; lines = old.lines } in
    let seen = ap statement_of c.in-Assign.is ∙ assign_seen c.in-Assign.name c.in-Assign.value in
    let added : IsAdded old.code mid.code (assigned (plain_scope c.args.scope) (length c.args.self.now.code.draft) c.args.self.now.code.free c.in-Assign.name
    c.in-Assign.value) = c.in_ok-assign-in-Assign.ensures in
    subst (λ s. OnOk c.mark.result (IsWritten old c.mark.new.self (lowered (plain_scope c.args.scope) (length c.args.self.now.code.draft)
    c.args.self.now.code.free s))) (sym seen)
    (marked old mid c.mark.new.self (assigned (plain_scope c.args.scope) (length c.args.self.now.code.draft) c.args.self.now.code.free c.in-Assign.name
    c.in-Assign.value) c.in-Assign.name.place.line c.mark.result c.requires.even refl added c.mark.ensures.code c.mark.ensures.lines)

pub write-returns-in_ok-store-in-Store : goal.write-returns-in_ok-store-in-Store
write-returns-in_ok-store-in-Store t c =
    let old = c.args.self.now in
    let mid : Body = record { code = c.store.new.self; lines = old.lines } in
    let seen = ap statement_of c.in-Store.is ∙ store_seen c.in-Store.array c.in-Store.index c.in-Store.value in
    let added : IsAdded old.code mid.code (stored (plain_scope c.args.scope) (length c.args.self.now.code.draft) c.args.self.now.code.free c.in-Store.array
    c.in-Store.index c.in-Store.value) = c.in_ok-store-in-Store.ensures in
    subst (λ s. OnOk c.mark-in-Store.result (IsWritten old c.mark-in-Store.new.self (lowered (plain_scope c.args.scope) (length c.args.self.now.code.draft)
    c.args.self.now.code.free s))) (sym seen)
    (marked old mid c.mark-in-Store.new.self (stored (plain_scope c.args.scope) (length c.args.self.now.code.draft) c.args.self.now.code.free
    c.in-Store.array c.in-Store.index c.in-Store.value) c.in-Store.array.place.line c.mark-in-Store.result
    c.requires.even refl added c.mark-in-Store.ensures.code c.mark-in-Store.ensures.lines)

pub write-returns-in_ok-create-in-Create : goal.write-returns-in_ok-create-in-Create
write-returns-in_ok-create-in-Create t c =
    let old = c.args.self.now in
    let mid : Body = record { code = c.create.new.self; lines = old.lines } in
    let seen = ap statement_of c.in-Create.is ∙ create_seen c.in-Create.handle c.in-Create.thread c.in-Create.arguments in
    let added : IsAdded old.code mid.code (created (plain_scope c.args.scope) (length c.args.self.now.code.draft) c.args.self.now.code.free
    c.in-Create.handle c.in-Create.thread c.in-Create.arguments.items) =
    subst (λ es. IsAdded old.code mid.code (created (plain_scope c.args.scope) (length c.args.self.now.code.draft) c.args.self.now.code.free
    c.in-Create.handle c.in-Create.thread es)) c.as_slice.ensures.value c.in_ok-create-in-Create.ensures in
    subst (λ s. OnOk c.mark-in-Create.result (IsWritten old c.mark-in-Create.new.self (lowered (plain_scope c.args.scope) (length c.args.self.now.code.draft)
    c.args.self.now.code.free s))) (sym seen)
    (marked old mid c.mark-in-Create.new.self (created (plain_scope c.args.scope) (length c.args.self.now.code.draft) c.args.self.now.code.free
    c.in-Create.handle c.in-Create.thread c.in-Create.arguments.items) c.in-Create.handle.place.line c.mark-in-Create.result
    c.requires.even refl added c.mark-in-Create.ensures.code c.mark-in-Create.ensures.lines)

pub write-returns-in_ok-modify-in-Modify : goal.write-returns-in_ok-modify-in-Modify
write-returns-in_ok-modify-in-Modify t c =
    let old = c.args.self.now in
    let mid : Body = record { code = c.modify.new.self; lines = old.lines } in
    let seen = ap statement_of c.in-Modify.is ∙ modify_seen c.in-Modify.local c.in-Modify.target c.in-Modify.index c.in-Modify.update in
    let made = modified (plain_scope c.args.scope) (length c.args.self.now.code.draft) c.args.self.now.code.free c.in-Modify.local c.in-Modify.target
    c.in-Modify.index c.in-Modify.update in
    let added : IsAdded old.code mid.code made = c.in_ok-modify-in-Modify.ensures in
    subst (λ s. OnOk c.mark-in-Modify.result (IsWritten old c.mark-in-Modify.new.self (lowered (plain_scope c.args.scope) (length c.args.self.now.code.draft)
    c.args.self.now.code.free s))) (sym seen)
    (marked old mid c.mark-in-Modify.new.self (modified (plain_scope c.args.scope) (length c.args.self.now.code.draft) c.args.self.now.code.free
    c.in-Modify.local c.in-Modify.target c.in-Modify.index c.in-Modify.update) c.in-Modify.local.place.line c.mark-in-Modify.result c.requires.even refl
    added c.mark-in-Modify.ensures.code c.mark-in-Modify.ensures.lines)

pub write-returns-in_ok-assert-in-Assert : goal.write-returns-in_ok-assert-in-Assert
write-returns-in_ok-assert-in-Assert t c =
    let old = c.args.self.now in
    let mid : Body = record { code = c.assert.new.self; lines = old.lines } in
    let seen = ap statement_of c.in-Assert.is ∙ assert_seen c.in-Assert.place c.in-Assert.condition in
    let made = asserted (plain_scope c.args.scope) (length c.args.self.now.code.draft) c.args.self.now.code.free c.in-Assert.condition in
    let added : IsAdded old.code mid.code made = c.in_ok-assert-in-Assert.ensures in
    subst (λ s. OnOk c.mark-in-Assert.result (IsWritten old c.mark-in-Assert.new.self (lowered (plain_scope c.args.scope) (length c.args.self.now.code.draft)
    c.args.self.now.code.free s))) (sym seen)
    (marked old mid c.mark-in-Assert.new.self (asserted (plain_scope c.args.scope) (length c.args.self.now.code.draft) c.args.self.now.code.free
    c.in-Assert.condition) c.in-Assert.place.line c.mark-in-Assert.result c.requires.even refl added c.mark-in-Assert.ensures.code
    c.mark-in-Assert.ensures.lines)

pub write-returns-in_ok-act-in-Act : goal.write-returns-in_ok-act-in-Act
write-returns-in_ok-act-in-Act t c =
    let old = c.args.self.now in
    let mid : Body = record { code = c.act.new.self; lines = old.lines } in
    let seen = ap statement_of c.in-Act.is ∙ act_seen c.in-Act.place c.in-Act.action c.in-Act.name in
    let added : IsAdded old.code mid.code (record {
      instrs = action c.in-Act.action (plain_scope c.args.scope c.in-Act.name);
      free = c.args.self.now.code.free;
    }) = subst (λ o. IsAdded old.code mid.code (record {
      instrs = action c.in-Act.action o;
      free = old.code.free;
    })) c.thing_of.ensures c.in_ok-act-in-Act.ensures in
    subst (λ s. OnOk c.mark-in-Act.result (IsWritten old c.mark-in-Act.new.self (lowered (plain_scope c.args.scope) (length c.args.self.now.code.draft)
    c.args.self.now.code.free s))) (sym seen)
    (marked old mid c.mark-in-Act.new.self (record {
      instrs = action c.in-Act.action (plain_scope c.args.scope c.in-Act.name);
      free = c.args.self.now.code.free;
    }) c.in-Act.place.line c.mark-in-Act.result c.requires.even refl added c.mark-in-Act.ensures.code
    c.mark-in-Act.ensures.lines)

pub write-returns-in_ok-wait-in-Wait : goal.write-returns-in_ok-wait-in-Wait
write-returns-in_ok-wait-in-Wait t c =
    let old = c.args.self.now in
    let mid : Body = record { code = c.wait.new.self; lines = old.lines } in
    let seen = ap statement_of c.in-Wait.is ∙ wait_seen c.in-Wait.place c.in-Wait.condition c.in-Wait.mutex in
    let added : IsAdded old.code mid.code (record {
      instrs = wait (plain_scope c.args.scope c.in-Wait.condition) (plain_scope c.args.scope c.in-Wait.mutex);
      free = c.args.self.now.code.free;
    }) = subst (λ o. IsAdded old.code mid.code (record {
      instrs = wait (plain_scope c.args.scope c.in-Wait.condition) o;
      free = old.code.free;
    })) c.thing_of-in-Wait-2.ensures (subst (λ o. IsAdded old.code mid.code (record {
      instrs = wait o c.thing_of-in-Wait-2.result;
      free = old.code.free;
    })) c.thing_of-in-Wait.ensures c.in_ok-wait-in-Wait.ensures) in
    subst (λ s. OnOk c.mark-in-Wait.result (IsWritten old c.mark-in-Wait.new.self (lowered (plain_scope c.args.scope) (length c.args.self.now.code.draft)
    c.args.self.now.code.free s))) (sym seen)
    (marked old mid c.mark-in-Wait.new.self (record {
      instrs =
          wait (plain_scope c.args.scope c.in-Wait.condition) (plain_scope c.args.scope c.in-Wait.mutex);
      free = c.args.self.now.code.free;
    }) c.in-Wait.place.line c.mark-in-Wait.result c.requires.even refl added c.mark-in-Wait.ensures.code
    c.mark-in-Wait.ensures.lines)

pub write-returns-in_ok-order-in-Order : goal.write-returns-in_ok-order-in-Order
write-returns-in_ok-order-in-Order t c =
    let old = c.args.self.now in
    let mid : Body = record { code = c.order.new.self; lines = old.lines } in
    let seen = ap statement_of c.in-Order.is ∙ order_seen c.in-Order.place c.in-Order.barrier in
    let added : IsAdded old.code mid.code (record {
      instrs = barrier c.in-Order.barrier ∷ [];
      free = c.args.self.now.code.free;
    }) = c.in_ok-order-in-Order.ensures in
    subst (λ s. OnOk c.mark-in-Order.result (IsWritten old c.mark-in-Order.new.self (lowered (plain_scope c.args.scope) (length c.args.self.now.code.draft)
    c.args.self.now.code.free s))) (sym seen)
    (marked old mid c.mark-in-Order.new.self (record {
      instrs = barrier c.in-Order.barrier ∷ [];
      free = c.args.self.now.code.free;
    }) c.in-Order.place.line c.mark-in-Order.result c.requires.even refl added c.mark-in-Order.ensures.code
    c.mark-in-Order.ensures.lines)

pub write_all-write-requires : goal.write_all-write-requires
write_all-write-requires t c =
    let ready =
    statement_ready (plain_scope c.args.scope) c.args.self.now c.loop-statement.self
    (all_lowered (plain_scope c.args.scope) (length c.args.self.now.code.draft) c.args.self.now.code.free (statements_seen c.args.statements.now))
    c.args.statements.now c.loop-statement.statement-index c.statement-item.result c.loop-statement.invariant (omega arith) c.statement-item.is
    c.requires.fits in
    let even = ready.even in
    let room = ready.room in
    let fits = ready.fits in
    search (rules, the_lemmas)

-- ---- a branch

pub write_branch-end-requires-clause-room : goal.write_branch-end-requires-clause-room
write_branch-end-requires-clause-room t c =
    let old = c.args.self.now in
    let b = branch_of c.args.branch.now in
    let size =
    branch_size (plain_scope c.args.scope) old c.begin.new.self c.write_all.new.self c.leave_jump.new.self c.mark.new.self c.mark.new.self c.args.branch.now
    c.in_ok-test.test c.as_slice.result.now (passing c.args.more 0) c.as_slice.ensures.value c.in_ok-test.ensures c.in_ok-write_all.ensures
    c.in_ok-leave_jump.ensures.draft c.leave_jump.ensures.free (ap (λ ls. ls.items) c.leave_jump.ensures.lines) c.mark.ensures.code
    c.in_ok-mark.ensures.lines in
    omega (
      arith,
      size,
      c.requires.fits,
      open_size b.place.line (length old.code.draft) (test_of c.args.scope old b) (body_of c.args.scope old b) c.args.more,
    )

pub write_branch-returns-clause-written : goal.write_branch-returns-clause-written
write_branch-returns-clause-written t c =
    branch_ended (plain_scope c.args.scope) c.args.self.now c.begin.new.self c.write_all.new.self c.leave_jump.new.self c.mark.new.self c.end.new.self
    c.args.branch.now c.in_ok-test.test c.as_slice.result.now (passing c.args.more 0) c.as_slice.ensures.value c.in_ok-test.ensures c.in_ok-write_all.ensures
    c.in_ok-leave_jump.ensures.draft c.leave_jump.ensures.free (ap (λ ls. ls.items) c.leave_jump.ensures.lines) c.mark.ensures.code c.in_ok-mark.ensures.lines
    c.end.ensures.draft c.end.ensures.lines c.end.ensures.free

pub write_branch-returns-clause-jumps : goal.write_branch-returns-clause-jumps
write_branch-returns-clause-jumps t c =
    let size =
    inner_size (plain_scope c.args.scope) c.args.self.now c.begin.new.self c.write_all.new.self c.leave_jump.new.self c.mark.new.self c.mark.new.self
    c.args.branch.now c.in_ok-test.test c.as_slice.result.now (passing c.args.more 0) c.as_slice.ensures.value c.in_ok-test.ensures c.in_ok-write_all.ensures
    c.in_ok-leave_jump.ensures.draft c.leave_jump.ensures.free (ap (λ ls. ls.items) c.leave_jump.ensures.lines) c.mark.ensures.code
    c.in_ok-mark.ensures.lines in
    c.in_ok-leave_jump.ensures.jumps ∙ ap (λ n. c.args.jumps.now.items ++ jump_place c.args.more n) size

-- ---- a loop

pub write_loop-end-requires-clause-room : goal.write_loop-end-requires-clause-room
write_loop-end-requires-clause-room t c =
    let old = c.args.self.now in
    let b = branch_of c.args.branch.now in
    let left : Body = record { code = record { draft = c.push.new.self; free = c.write_all.new.self.code.free }; lines = c.write_all.new.self.lines } in
    let size =
    branch_size (plain_scope c.args.scope) old c.begin.new.self c.write_all.new.self left c.mark.new.self c.mark.new.self c.args.branch.now
    c.in_ok-test.test c.as_slice.result.now (Goto c.len-start.result ∷ []) c.as_slice.ensures.value c.in_ok-test.ensures c.in_ok-write_all.ensures
    c.in_ok-push.ensures refl refl c.mark.ensures.code c.in_ok-mark.ensures.lines in
    omega (arith, size, c.requires.fits, loop_size b.place.line (length old.code.draft) (test_of c.args.scope old b) (body_of c.args.scope old b))

pub write_loop-returns : goal.write_loop-returns
write_loop-returns t c =
    let old = c.args.self.now in
    let left : Body = record { code = record { draft = c.push.new.self; free = c.write_all.new.self.code.free }; lines = c.write_all.new.self.lines } in
    branch_ended (plain_scope c.args.scope) old c.begin.new.self c.write_all.new.self left c.mark.new.self c.end.new.self c.args.branch.now
    c.in_ok-test.test c.as_slice.result.now (Goto (length old.code.draft) ∷ []) c.as_slice.ensures.value c.in_ok-test.ensures c.in_ok-write_all.ensures
    (c.in_ok-push.ensures ∙ ap (λ n. c.write_all.new.self.code.draft ++ Goto n ∷ []) c.len-start.ensures) refl refl c.mark.ensures.code
    c.in_ok-mark.ensures.lines c.end.ensures.draft c.end.ensures.lines c.end.ensures.free

-- ---- a chain

pub write-write_branch-requires : goal.write-write_branch-requires
write-write_branch-requires t c =
    let old = c.args.self.now in
    let ready : IsReady old (lowered (plain_scope c.args.scope) (length old.code.draft) old.code.free (statement_of c.args.statement.now)) =
    record { even = c.requires.even; room = c.requires.room; fits = c.requires.fits } in
    let first = first_ready (plain_scope c.args.scope) old c.args.statement.now c.in-If.first c.in-If.others c.in-If.last c.in-If.is ready c.goes_on-more.result
    (c.goes_on-more.ensures ∙ ap (λ bs. goes_on (otherwise_of (map branch_of bs) (option_map block_of c.in-If.last))) c.as_slice-in-If.ensures.value) in
    let fits = first.fits in
    search (rules, the_lemmas)

pub write-write_branch-requires-in-loop-i : goal.write-write_branch-requires-in-loop-i
write-write_branch-requires-in-loop-i t c =
    let xs = c.in-If.others.items in
    let size = ap length c.deref-other-items.ensures.value in
    let within : c.loop-i.i < length xs = omega arith in
    let is : c.other-item.result ≡ get_or xs c.loop-i.i c.other-item.result =
    subst (λ ys. c.other-item.result ≡ get_or ys c.loop-i.i c.other-item.result) c.deref-other-items.ensures.value c.other-item.is in
    let more : c.goes_on-more-in-loop-i.result ≡ goes_on (otherwise_of (map branch_of (drop (c.loop-i.i + 1) xs)) (option_map block_of c.in-If.last)) =
    c.goes_on-more-in-loop-i.ensures
    ∙ ap (λ bs. goes_on (otherwise_of (map branch_of (drop (c.loop-i.i + 1) bs)) (option_map block_of c.in-If.last))) c.as_slice-in-loop-i.ensures.value in
    let ready =
    next_ready (plain_scope c.args.scope) c.args.self.now c.loop-i.self c.loop-i.jumps.items (lowered (plain_scope c.args.scope) (length
    c.args.self.now.code.draft) c.args.self.now.code.free (statement_of c.args.statement.now)) c.in-If.others.items (option_map block_of c.in-If.last)
    c.loop-i.i c.loop-i.invariant c.requires.fits
    c.other-item.result within is c.goes_on-more-in-loop-i.result more in
    let even = ready.even in
    let room = ready.room in
    let fits = ready.fits in
    search (rules, the_lemmas)

pub write-loop-i-init : goal.write-loop-i-init
write-loop-i-init t c =
    let old = c.args.self.now in
    let ready : IsReady old (lowered (plain_scope c.args.scope) (length old.code.draft) old.code.free (statement_of c.args.statement.now)) =
    record { even = c.requires.even; room = c.requires.room; fits = c.requires.fits } in
    chain_begins (plain_scope c.args.scope) old c.args.statement.now c.in-If.first c.in-If.others c.in-If.last c.in-If.is ready c.write_branch.new.self
    c.goes_on-more.result
    (c.goes_on-more.ensures ∙ ap (λ bs. goes_on (otherwise_of (map branch_of bs) (option_map block_of c.in-If.last))) c.as_slice-in-If.ensures.value)
    c.in_ok-write_branch-in-If.ensures.written c.new-jumps.result.items c.write_branch.new.jumps.items c.new-jumps.ensures.items
    c.in_ok-write_branch-in-If.ensures.jumps

pub write-loop-i-preserved : goal.write-loop-i-preserved
write-loop-i-preserved t c =
    let xs = c.in-If.others.items in
    let size = ap length c.deref-other-items.ensures.value in
    let within : c.loop-i.i < length xs = omega arith in
    let is : c.other-item.result ≡ get_or xs c.loop-i.i c.other-item.result =
    subst (λ ys. c.other-item.result ≡ get_or ys c.loop-i.i c.other-item.result) c.deref-other-items.ensures.value c.other-item.is in
    let more : c.goes_on-more-in-loop-i.result ≡ goes_on (otherwise_of (map branch_of (drop (c.loop-i.i + 1) xs)) (option_map block_of c.in-If.last)) =
    c.goes_on-more-in-loop-i.ensures
    ∙ ap (λ bs. goes_on (otherwise_of (map branch_of (drop (c.loop-i.i + 1) bs)) (option_map block_of c.in-If.last))) c.as_slice-in-loop-i.ensures.value in
    chain_goes_on (plain_scope c.args.scope) c.args.self.now c.loop-i.self c.loop-i.jumps.items (lowered (plain_scope c.args.scope) (length
    c.args.self.now.code.draft) c.args.self.now.code.free (statement_of c.args.statement.now)) c.in-If.others.items (option_map block_of c.in-If.last)
    c.loop-i.i c.loop-i.invariant c.requires.fits
    c.other-item.result within is c.write_branch-in-loop-i.new.self c.goes_on-more-in-loop-i.result more c.in_ok-write_branch-in-If-2.ensures.written
    c.write_branch-in-loop-i.new.jumps.items c.in_ok-write_branch-in-If-2.ensures.jumps

pub write-write_last-requires : goal.write-write_last-requires
write-write_last-requires t c =
    let size = ap length c.deref-other-items.ensures.value in
    let end : length c.in-If.others.items ≤ c.loop-i.i = omega arith in
    let ready = last_ready (plain_scope c.args.scope) c.args.self.now c.loop-i.self c.loop-i.jumps.items (lowered (plain_scope c.args.scope) (length
    c.args.self.now.code.draft) c.args.self.now.code.free (statement_of c.args.statement.now)) c.in-If.others.items (option_map block_of c.in-If.last)
    c.loop-i.i c.loop-i.invariant c.requires.fits end in
    let even = ready.even in
    let room = ready.room in
    let fits = ready.fits in
    search (rules, the_lemmas)

pub write-join-requires-clause-room : goal.write-join-requires-clause-room
write-join-requires-clause-room t c =
    let size = ap length c.deref-other-items.ensures.value in
    let end : length c.in-If.others.items ≤ c.loop-i.i = omega arith in
    let ready = last_ready (plain_scope c.args.scope) c.args.self.now c.loop-i.self c.loop-i.jumps.items (lowered (plain_scope c.args.scope) (length
    c.args.self.now.code.draft) c.args.self.now.code.free (statement_of c.args.statement.now)) c.in-If.others.items (option_map block_of c.in-If.last)
    c.loop-i.i c.loop-i.invariant c.requires.fits end in
    let left = lowered_otherwise (plain_scope c.args.scope) (length c.loop-i.self.code.draft) c.loop-i.self.code.free (otherwise_of [] (option_map block_of
    c.in-If.last)) in
    omega (arith, ready.fits, ap length c.in_ok-write_last-in-If.ensures.instrs, length-append c.loop-i.self.code.draft left.instrs)

pub write-join-requires-clause-jumps : goal.write-join-requires-clause-jumps
write-join-requires-clause-jumps t c =
    let size = ap length c.deref-other-items.ensures.value in
    let end : length c.in-If.others.items ≤ c.loop-i.i = omega arith in
    let written = last_written (plain_scope c.args.scope) c.args.self.now c.loop-i.self c.loop-i.jumps.items (lowered (plain_scope c.args.scope) (length
    c.args.self.now.code.draft) c.args.self.now.code.free (statement_of c.args.statement.now)) c.in-If.others.items (option_map block_of c.in-If.last)
    c.loop-i.i c.loop-i.invariant c.requires.fits end c.write_last.new.self c.in_ok-write_last-in-If.ensures in
    subst (Below (length c.write_last.new.self.code.draft)) (sym c.as_slice-in-If-2.ensures.value) written.below

pub write-returns-in_ok-write_last-in-If : goal.write-returns-in_ok-write_last-in-If
write-returns-in_ok-write_last-in-If t c =
    let size = ap length c.deref-other-items.ensures.value in
    let end : length c.in-If.others.items ≤ c.loop-i.i = omega arith in
    let mid = c.write_last.new.self in
    let written = last_written (plain_scope c.args.scope) c.args.self.now c.loop-i.self c.loop-i.jumps.items (lowered (plain_scope c.args.scope) (length
    c.args.self.now.code.draft) c.args.self.now.code.free (statement_of c.args.statement.now)) c.in-If.others.items (option_map block_of c.in-If.last)
    c.loop-i.i c.loop-i.invariant c.requires.fits end mid c.in_ok-write_last-in-If.ensures in
    let all = (lowered (plain_scope c.args.scope) (length c.args.self.now.code.draft) c.args.self.now.code.free (statement_of c.args.statement.now)) in
    let left : Lowered = record { instrs = []; lines = []; free = mid.code.free } in
    all_written c.args.self.now mid c.join.new.self c.loop-i.jumps.items all left written refl refl refl
    (c.join.ensures.draft ∙ ap (λ js. filled (length mid.code.draft) js mid.code.draft) c.as_slice-in-If-2.ensures.value) c.join.ensures.lines
    c.join.ensures.free
