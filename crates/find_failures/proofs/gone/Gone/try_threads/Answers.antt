use Rattle.std.proofs.Common.{sym, subst}
use Rattle.std.proofs.lemmas.Result.{IfOk-weaker}
use Rattle.tc_base.specs.declared.failing.Failing.TheVariants as failing
use Rattle.clap_solve.specs.Solved.{IsImpossible}
use Rattle.find_failures.specs.Runs.{AreImpossible}
use Rattle.find_failures.specs.helpers.Gone.{IsTried}
use Rattle.find_failures.proofs.Tried.{only_deadlock, tried_so}
use Rattle.find_failures.proofs.gone.Gone.try_threads.Goals as goal

pub returns-in-Deadlock : goal.returns-in-Deadlock
returns-in-Deadlock g c =
    let one : Type 0 =
    IsImpossible g.M.MemoryModel.ops c.args.code.now
    (record { model = g.M.MemoryModel.MODEL; failing = failing.Deadlock; threads = c.args.threads.now }) in
    let other : Type 0 = AreImpossible g.M.MemoryModel.ops g.M.MemoryModel.MODEL c.args.code.now c.args.asked.kind c.args.threads.now in
    IfOk-weaker c.try_end.result
    (IsTried g.M.MemoryModel.ops g.M.MemoryModel.MODEL g.M.MemoryModel.bound c.args.code.now c.args.asked c.args.self.now c.try_end.new.self one)
    (IsTried g.M.MemoryModel.ops g.M.MemoryModel.MODEL g.M.MemoryModel.bound c.args.code.now c.args.asked c.args.self.now c.try_end.new.self other)
    (tried_so g.M.MemoryModel.ops g.M.MemoryModel.MODEL g.M.MemoryModel.bound c.args.code.now c.args.asked c.args.self.now c.try_end.new.self one other
    (λ is.
    subst (λ k. AreImpossible g.M.MemoryModel.ops g.M.MemoryModel.MODEL c.args.code.now k c.args.threads.now) (sym c.in-Deadlock.is)
    (only_deadlock g.M.MemoryModel.ops g.M.MemoryModel.MODEL c.args.code.now c.args.threads.now is)))
    c.try_end.ensures
