use Rattle.std.proofs.Common.{sym, subst, List}
use Rattle.std.specs.Prelude.{IsTrue}
use Rattle.tc_base.specs.Paths.{ThreadPath}
use Rattle.tc_base.specs.declared.failing.Failing.TheVariants.{Thread}
use Rattle.memory_models.specs.declared.model.Model.TheVariants.{Tso}
use Rattle.run_log.specs.Logs.{is_log}
use Rattle.tc_workload.proofs.Rising.{workload_is_log}
use Rattle.tc_workload.proofs.log.workload_log.Goals as goal

pub new-requires : goal.new-requires
new-requires c =
    subst (λ (ts : List ThreadPath). IsTrue (is_log (record { model = Tso; failing = Thread 0; threads = ts }))) (sym c.in_ok-threads.ensures)
    (workload_is_log c.args.workers)
