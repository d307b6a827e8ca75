-- Laws of recorded logs.
use Rattle.std.proofs.Common.{◌≡◌, ap, refl, arith, inl, inr, List, ℕ, length, None, true}
use Rattle.sha2.specs.Sha256.{sha256}
use Rattle.kept_logs.proofs.Digests.{sha256_is}
use Rattle.kept_logs.proofs.path_log.Logs.{text_is}
use Rattle.memory_models.specs.declared.model.Model.{Model}
use Rattle.memory_models.specs.declared.model.Model.TheVariants.{Sc, Tso, Pso}
use Rattle.kept_logs.specs.run_log.Logs.{Log, StoredLog}
use Rattle.run_models.specs.Models.{moves_as}
use Rattle.run_models.proofs.Simulation.{reproduces_under_more}
use Rattle.store_buffers.specs.Buffers.{buffer_of, no_buffer, fifo_buffer, cell_buffer}
use Rattle.store_buffers.specs.Laws.{Laws}
use Rattle.store_buffers.specs.Pending.{Binding, binds_all, binds_cells}
use Rattle.store_buffers.specs.helpers.Partial.{pso_laws}
use Rattle.store_buffers.specs.helpers.Sequential.{sc_laws}
use Rattle.store_buffers.specs.helpers.Total.{tso_laws}
use Rattle.tc_base.specs.declared.moves.Move.{Move}
use Rattle.tc_code.specs.Code.{Code}
use Rattle.tc_code.specs.Run.{Reproduces}
use Rattle.tc_compile.specs.Programs.{IsCodeOf}
use Rattle.tc_compile.proofs.Lawful.{code_is_lawful}
use Rattle.tc_record.proofs.Ended.{log_is_short, run_reproduces}
use Rattle.tc_record.specs.Seeded.{Ended, HasLog}
use Rattle.record_command.specs.Logs.{IsLogText, IsRecorded, allows}
use Rattle.record_command.specs.Runs.{HasOutcome, Record, run_of}
use Rattle.record_command.specs.declared.ending.Outcome.{Outcome}
use Rattle.record_command.specs.declared.ending.Outcome.TheVariants.{Failed, Deadlock}

-- each memory model obeys its laws
model_laws : (m : Model) → (bound : Binding) × Laws (buffer_of m) m bound
model_laws Sc = (binds_all, sc_laws)
model_laws Tso = (binds_all, tso_laws)
model_laws Pso = (binds_cells, pso_laws)

-- a run with such an outcome has a log
has_log : {B : Type 0} (code : Code) (run : Ended B) (o : Outcome) → HasOutcome code run o → HasLog run
has_log code run (Failed f) h = inl h.ended
has_log code run (Deadlock moves) h = inr h.0

-- the moves of a recorded run reproduce its log
pub recorded_reproduced : (call : Record) (program text : List ℕ) (code : Code) (o : Outcome) → IsCodeOf program code → HasOutcome code (run_of call code) o
    → IsLogText call.model program (run_of call code) text → IsRecorded call program o text
recorded_reproduced call program text code o f outcome is =
    let has = has_log code (run_of call code) o outcome in
    let stored : StoredLog = record { digest = None; log = is.log } in
    let made = call.model in
    let ops = buffer_of made in
    let laws = model_laws made in
    let lawful = code_is_lawful program code f in
    let digest = sha256_is program in
    let size = log_is_short ops made laws.0 laws.1 code lawful call.seed call.steps stored has is.is (sha256 program) digest in
    record {
      code = code;
      programs = f;
      outcome = outcome;
      logged = is;
      reproduces = run_reproduces ops made laws.0 laws.1 code lawful call.seed call.steps stored has is.is;
      short = omega (arith, size, ap length (text_is is.is_text));
    }

-- a log that one model reproduces is reproduced by a model that allows more
more : (m n : Model) → allows m n ≡ true → (code : Code) (log : Log) (moves : List Move) → Reproduces (buffer_of m) code log moves
    → (others : List Move) × Reproduces (buffer_of n) code log others
more Sc Sc e code log moves r = (moves, r)
more Tso Tso e code log moves r = (moves, r)
more Pso Pso e code log moves r = (moves, r)
more Sc Tso e code log moves r = (
  moves_as no_buffer code true binds_all moves,
  reproduces_under_more no_buffer fifo_buffer Sc Tso binds_all binds_all sc_laws tso_laws (record { binds = λ _ _ b. b; buffers = λ _. refl }) code log moves r,
)
more Sc Pso e code log moves r = (
  moves_as no_buffer code true binds_cells moves,
  reproduces_under_more no_buffer cell_buffer Sc Pso binds_all binds_cells sc_laws pso_laws
      (record { binds = λ _ _ b. refl; buffers = λ _. refl }) code log moves r,
)
more Tso Pso e code log moves r = (
  moves_as fifo_buffer code true binds_cells moves,
  reproduces_under_more fifo_buffer cell_buffer Tso Pso binds_all binds_cells tso_laws pso_laws
      (record { binds = λ _ _ b. refl; buffers = λ _. refl }) code log moves r,
)
more Tso Sc e code log moves r = cc
more Pso Sc e code log moves r = cc
more Pso Tso e code log moves r = cc

-- a recorded log is possible under its model and under each model that allows more
pub recorded_possible : (call : Record) (program text : List ℕ) (o : Outcome) (m : Model) → IsRecorded call program o text → allows call.model m ≡ true
    → (r : IsRecorded call program o text) × (moves : List Move) × Reproduces (buffer_of m) r.code r.logged.log moves
recorded_possible call program text o m r e =
    let others = more call.model m e r.code r.logged.log (run_of call r.code).moves r.reproduces in
    (r, others.0, others.1)
