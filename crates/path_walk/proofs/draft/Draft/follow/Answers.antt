use Rattle.std.proofs.Common.{◌≡◌, ◌∙◌, ◌≤◌, ap, sym, arith, length, Err}
use Rattle.path_walk.specs.Steps.{places_of}
use Rattle.path_walk.specs.helpers.Accounts.{account_by}
use Rattle.path_walk.specs.helpers.Drafts.{first_fault}
use Rattle.path_walk.proofs.Drafts.{stranger_fault, unfit_fault, follows, mapped_ok, mapped_err}
use Rattle.path_walk.proofs.draft.Draft.follow.Goals as goal

pub returns-in_default-clause-err : goal.returns-in_default-clause-err
returns-in_default-clause-err c =
    stranger_fault c.args.code.now c.args.log.now.log c.args.self.now c.args.thread.now c.requires.draft c.requires.next c.name-name.result.now
    c.name-name.ensures c.in_ok-first_fault.field-0
    (sym (c.in_default.ensures c.args.log.now.log c.args.thread.now c.requires.draft c.requires.next c.name-name.ensures)) c.in_ok-first_fault.ensures

pub add-requires-clause-started : goal.add-requires-clause-started
add-requires-clause-started c = let few = c.in-Ok.ensures.few.0 in omega (arith, few)

pub returns-in_ok-add-in-Ok-clause-ok : goal.returns-in_ok-add-in-Ok-clause-ok
returns-in_ok-add-in-Ok-clause-ok c =
    let told = mapped_ok (account_by c.args.code.now c.ending_of.result c.args.thread.now c.in-Some.function) _ _ c.in-Ok.ensures.told in
    let few : length c.in-Ok.account.walk.events ≤ 65536 = let h = c.in-Ok.ensures.few.1 in omega (arith, h) in
    let done = c.in_ok-add-in-Ok.ensures in
    follows c.args.code.now c.args.log.now.log c.args.self.now c.args.thread.now c.requires.draft c.requires.next c.name-name.result.now
    c.name-name.ensures c.in-Some.function c.ending_of.result told.0 _ done.0 c.add.new.self
    (sym (c.in-Some.ensures c.args.log.now.log c.args.thread.now c.requires.draft c.requires.next c.name-name.ensures))
    c.ending_of.ensures
    told.1 told.2 few done.1 done.2

pub returns-in_ok-first_fault-in-Err-Unfit-clause-err : goal.returns-in_ok-first_fault-in-Err-Unfit-clause-err
returns-in_ok-first_fault-in-Err-Unfit-clause-err c =
    let told = rw c.in-Err-Unfit.field-0-is at c.in-Err-Unfit.ensures.told in
    let given = mapped_err _ _ _ told in
    let err : places_of c.args.code.now c.in-Some.function c.ending_of.result c.args.thread.now.path ≡ Err c.in-Err-Unfit.misfit = cc in
    let is : c.in_ok-first_fault-in-Err-Unfit.field-0 ≡ first_fault c.args.self.now.missing c.name-name.result.now c.in-Err-Unfit.misfit =
    c.in_ok-first_fault-in-Err-Unfit.ensures ∙ ap (first_fault c.args.self.now.missing c.name-name.result.now) c.in-Err-Unfit.misfit-is in
    unfit_fault c.args.code.now c.args.log.now.log c.args.self.now c.args.thread.now c.requires.draft c.requires.next c.name-name.result.now
    c.name-name.ensures c.in-Some.function c.ending_of.result c.in-Err-Unfit.misfit c.in_ok-first_fault-in-Err-Unfit.field-0
    (sym (c.in-Some.ensures c.args.log.now.log c.args.thread.now c.requires.draft c.requires.next c.name-name.ensures))
    c.ending_of.ensures
    err is
