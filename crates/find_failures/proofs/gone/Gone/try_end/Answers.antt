use Rattle.std.proofs.Common.{subst}
use Rattle.std.specs.Result.{IfOk}
use Rattle.memory_models.specs.declared.model.Model.{Model}
use Rattle.run_log.specs.Logs.{StoredLog}
use Rattle.clap_solve.specs.Solved.{IsImpossible}
use Rattle.find_failures.specs.helpers.Gone.{IsTried}
use Rattle.find_failures.proofs.Tried.{logged}
use Rattle.find_failures.proofs.gone.Gone.try_end.Goals as goal

pub log_of-requires : goal.log_of-requires
log_of-requires g c =
    logged g.M.MemoryModel.MODEL c.args.threads.now c.args.code.now c.args.asked.kind c.args.asked.outcomes c.args.failing c.requires.one c.requires.records

pub returns : goal.returns
returns g c =
    subst
    (λ (x : Model).
    IfOk c.try_log.result
    (IsTried g.M.MemoryModel.ops g.M.MemoryModel.MODEL g.M.MemoryModel.bound c.args.code.now c.args.asked c.args.self.now c.try_log.new.self
    (IsImpossible g.M.MemoryModel.ops c.args.code.now (record { model = x; failing = c.args.failing; threads = c.args.threads.now }))))
    c.MODEL.ensures
    (subst
    (λ (l : StoredLog).
    IfOk c.try_log.result
    (IsTried g.M.MemoryModel.ops g.M.MemoryModel.MODEL g.M.MemoryModel.bound c.args.code.now c.args.asked c.args.self.now c.try_log.new.self
    (IsImpossible g.M.MemoryModel.ops c.args.code.now l.log)))
    c.in_ok-log.ensures c.try_log.ensures)
