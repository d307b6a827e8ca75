-- What comes of `workload`: the end of a run of a generated program, and the searches of its log.
use Rattle.std.specs.Prelude.{◌≡◌, ℕ, List, codes}
use Rattle.clap_solve.specs.Clauses.{bound_of}
use Rattle.clap_solve.specs.Solved.{IsAnswer, IsWithin}
use Rattle.clap_solve.specs.schedule_file.declared.schedule.Schedule.{Schedule}
use Rattle.clap_solve.specs.cdcl_core.declared.answer.Answer.{Answer}
use Rattle.run_log.specs.memory_models.declared.model.Model.{Model}
use Rattle.run_log.specs.memory_models.declared.model.Model.TheVariants.{Sc, Tso}
use Rattle.run_log.specs.Logs.{Log}
use Rattle.store_buffers.specs.Buffers.{buffer_of}
use Rattle.tc_code.specs.Code.{Code}
use Rattle.tc_compile.specs.Programs.{IsCodeOf, IsRefusal}
use Rattle.tc_limits.specs.declared.limits.TheConstants.{MOVES}
use Rattle.tc_record.specs.Seeded.{seed_words, seeded_run}
use Rattle.tc_record.specs.declared.end.End.{End}
use Rattle.tc_record.specs.declared.end.End.TheVariants.{Over, Failed, Finished, Deadlock, StepLimit}
use Rattle.tc_workload.specs.Workload.{workload_log, workload_text}
use Rattle.command_inputs.specs.declared.refusal.Refusal.{Refusal}
use Rattle.command_inputs.specs.declared.refusal.Refusal.TheVariants.{Program}
use Rattle.log_tasks.specs.Refused.{HasNoClauses}
use Rattle.log_tasks.specs.declared.budget.TheConstants.{USUAL_BUDGET}
use Rattle.workload_command.specs.declared.work.Work.{Work}
use Rattle.workload_command.specs.declared.command.Workload.{Workload as RawWorkload}

-- `workload N SEED`
pub record Workload : Type 0 where
  pub workers : ℕ
  pub seed : ℕ

abbrev pub plain_workload : RawWorkload → Workload
plain_workload call = record { workers = call.workers.count; seed = call.seed }

-- the program with this many workers, whose reads the seed chooses, and its log
abbrev pub program_of : Workload → List ℕ
program_of call = workload_text (seed_words call.seed call.workers)

abbrev pub log_of : Workload → Log
log_of call = workload_log call.workers

abbrev pub end_word : End → List ℕ
end_word Failed = codes "failed"
end_word Finished = codes "finished"
end_word Deadlock = codes "deadlock"
end_word (Over which) = codes "limit"
end_word StepLimit = codes "step-limit"

-- the word for the end of the run of a code under total store order, by moves chosen with this seed
abbrev pub word_of : Code → (seed : ℕ) → List ℕ
word_of code seed = end_word (seeded_run (buffer_of Tso) code seed MOVES).end

-- a search of the log under this memory model has this result
abbrev pub IsFoundUnder : Model → Code → Log → Answer Schedule → Type 0
IsFoundUnder model code log x =
    IsAnswer (buffer_of model) model (bound_of model) code log USUAL_BUDGET x

-- the run of the code ended so, and the searches of the log have these results
pub record IsWorked (code : Code) (log : Log) (seed : ℕ) (x : Work) : Type 0 where
  pub ended : x.end.now ≡ word_of code seed
  pub tso : IsFoundUnder Tso code log x.tso
  pub sc : IsFoundUnder Sc code log x.sc

-- the program has this code, and its log is within the limits
pub record IsSearched (call : Workload) (code : Code) : Type 0 where
  pub programs : IsCodeOf (program_of call) code
  pub within : IsWithin code (log_of call)

-- what comes of the program
abbrev pub IsWorkOf : Workload → Work → Type 0
IsWorkOf call x = (code : Code) × IsSearched call code × IsWorked code (log_of call) call.seed x

-- why nothing comes of it: it isn't a program, or its log has no clauses
abbrev pub IsUnworked : Workload → Refusal → Type 0
IsUnworked call (Program fault) = IsRefusal (program_of call) fault
IsUnworked call r =
    (code : Code) × IsCodeOf (program_of call) code × HasNoClauses code (log_of call) r
