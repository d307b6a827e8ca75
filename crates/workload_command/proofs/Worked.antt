-- From a test that fails to why nothing comes of a workload.
use Rattle.std.proofs.Common.{◌≡◌, subst, Result, Ok, Err, IfOk, IfErr, OnOk}
use Rattle.clap_solve.specs.Solved.{IsWithin}
use Rattle.run_log.specs.Logs.{Log as RunLog}
use Rattle.tc_code.specs.Code.{Code}
use Rattle.tc_compile.specs.Programs.{IsCodeOf, IsWhyNoCode}
use Rattle.tc_compile.specs.declared.fault.CompileFault.{CompileFault}
use Rattle.tc_compile.specs.declared.fault.CompileFault.TheVariants as compile
use Rattle.command_inputs.specs.Forms.{IsWhy}
use Rattle.command_inputs.specs.declared.refusal.Fault.{Fault}
use Rattle.command_inputs.specs.declared.refusal.Fault.TheVariants.{Refused, Memory}
use Rattle.command_inputs.specs.declared.refusal.Refusal.{Refusal}
use Rattle.command_inputs.specs.declared.refusal.Refusal.TheVariants.{Program, Log, LogOver, Schedule, Refutation, Answer}
use Rattle.command_inputs.specs.helpers.Faults.{compile_fault}
use Rattle.log_tasks.specs.Refused.{HasNoClauses}
use Rattle.workload_command.specs.Works.{IsUnworked, IsWorkOf, IsWorked, Workload, log_of, program_of}
use Rattle.workload_command.specs.declared.work.Work.{Work}

module _ (call : Workload) where
  -- a text without code is refused this way
  pub uncoded : (f : CompileFault) → IsWhyNoCode (program_of call) f → IsWhy (IsUnworked call) (compile_fault f)
  uncoded (compile.Refused fault) h = h
  uncoded compile.Memory h = h

  -- a log without clauses is refused this way
  clauseless : (code : Code) → IsCodeOf (program_of call) code → (r : Refusal) → HasNoClauses code (log_of call) r → IsUnworked call r
  clauseless code f (Program fault) h = absurd h
  clauseless code f (Log l) h = (code, f, h)
  clauseless code f (LogOver part n) h = (code, f, h)
  clauseless code f (Schedule n) h = (code, f, h)
  clauseless code f (Refutation n) h = (code, f, h)
  clauseless code f (Answer n) h = (code, f, h)

  module _ (code : Code) (f : IsCodeOf (program_of call) code) (log : RunLog) (same : log ≡ log_of call) where
    clauseless_by : (fault : Fault) → IsWhy (HasNoClauses code log) fault → IsWhy (IsUnworked call) fault
    clauseless_by (Refused r) h = clauseless code f r (subst (λ l. HasNoClauses code l r) same h)
    clauseless_by Memory h = tt

    pub unsearched : (r : Result Work Fault) → IfErr r (IsWhy (HasNoClauses code log)) → IfErr r (IsWhy (IsUnworked call))
    unsearched (Ok x) h = tt
    unsearched (Err fault) h = clauseless_by fault h

    -- a search of the log is one of the workload
    pub searched : (r : Result Work Fault) → IfOk r (IsWorked code log call.seed) → OnOk r (IsWithin code log) → IfOk r (IsWorkOf call)
    searched (Ok x) h within =
        (code, record { programs = f; within = subst (IsWithin code) same within }, subst (λ l. IsWorked code l call.seed x) same h)
    searched (Err fault) h within = tt
