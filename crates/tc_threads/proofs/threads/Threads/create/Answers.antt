use Rattle.std.proofs.Common.{sym, ap, subst, ◌∙◌, IfSome, pos}
use Rattle.std.proofs.lemmas.Result.{on_ok_weaker}
use Rattle.std.specs.FinMap as map
use Rattle.tc_base.specs.States.{Thread}
use Rattle.tc_code.specs.Code.{Code}
use Rattle.tc_code.specs.Step.{local_after}
use Rattle.tc_threads.specs.CanDo.{CanDo}
use Rattle.tc_threads.proofs.ByName.{there_and, after_new, get-insert_new}
use Rattle.tc_threads.proofs.threads.Threads.create.Goals as goal

pub advance-requires-clause-can : goal.advance-requires-clause-can
advance-requires-clause-can g c =
    let t =
    there_and (λ (t : Thread g.row.M-Buffer.Denot). (code : Code) × CanDo code t.local c.args.instr.now)
    (map.get c.args.self.now c.args.name.now) c.requires.can in
    subst (λ o. IfSome o (λ t. (code : Code) × CanDo code t.local c.args.instr.now))
    (sym (ap (λ m. map.get m c.args.name.now) c.in_ok-add.ensures.ok
    ∙ get-insert_new c.args.self.now c.args.name.now c.args.child t.0 c.args.thread t.1 c.requires.is_new ∙ t.1)) t.2

pub returns-clause-ok : goal.returns-clause-ok
returns-clause-ok g c =
    let t =
    there_and (λ (t : Thread g.row.M-Buffer.Denot). (code : Code) × CanDo code t.local c.args.instr.now)
    (map.get c.args.self.now c.args.name.now) c.requires.can in
    on_ok_weaker c.advance.result
    (after_new c.args.self.now c.add.new.self c.advance.new.self c.args.name.now c.args.child c.args.thread
    (λ t. record t { local = local_after t.local c.args.instr.now (pos 0) }) t.0 t.1 c.requires.is_new c.in_ok-add.ensures.ok)
    c.advance.ensures.ok
