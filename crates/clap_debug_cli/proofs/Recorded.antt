-- A log that `record` kept is never impossible.
use Rattle.std.proofs.Common.{◌≡◌, ◌∙◌, ℕ, List, Option, Some, None, true, ap, refl, subst, sym, unwrap_or}
use Rattle.std.proofs.lemmas.Option.{same_Some}
use Rattle.check_command.proofs.path_log.Logs.{one_log}
use Rattle.check_command.proofs.tc_compile.OnePrograms.{one_code}
use Rattle.tc_io.specs.Outside.{Files, bytes_at, told_under}
use Rattle.command_frame.specs.End.{End}
use Rattle.log_tasks.specs.Tasks.{model_of}
use Rattle.log_tasks.specs.tc_code.Code.{Code}
use Rattle.log_tasks.specs.tc_code.Run.{Reproduces}
use Rattle.command_inputs.specs.tc_compile.Programs.{IsCodeOf}
use Rattle.log_tasks.specs.run_log.Logs.{Log}
use Rattle.command_inputs.specs.path_log.Texts.{IsLog}
use Rattle.record_command.specs.tc_base.declared.moves.Move.{Move}
use Rattle.memory_models.specs.declared.model.Model.{Model}
use Rattle.record_command.specs.Answers.{RecordAnswers}
use Rattle.record_command.specs.Logs.{IsRecorded, allows}
use Rattle.record_command.specs.Runs.{Record}
use Rattle.record_command.proofs.Laws.{recorded_possible}
use Rattle.replay_command.specs.store_buffers.Buffers.{buffer_of}
use Rattle.clap_debug_cli.specs.command_inputs.Forms.{Pair}
use Rattle.clap_debug_cli.specs.Sound.{IsSound}
use Rattle.clap_debug_cli.proofs.Sound.{holds}

moved : {m n : Model} {c d : Code} {k l : Log} → m ≡ n → c ≡ d → k ≡ l → (moves : List Move) → Reproduces (buffer_of m) c k moves
    → Reproduces (buffer_of n) d l moves
moved {m} {n} {c} {d} {k} {l} model code log moves r =
    subst (λ x. Reproduces (buffer_of x) d l moves) model
    (subst (λ x. Reproduces (buffer_of m) x l moves) code (subst (λ x. Reproduces (buffer_of m) c x moves) log r))

module _ (call : Record) (files held : Files) (e : End) (answers : RecordAnswers call files e) (zero : e.status ≡ 0) (same_held : e.held ≡ Some held)
    (same_program : bytes_at held call.program ≡ bytes_at files call.program) (asked : Option Model)
    (allowed : allows call.model (unwrap_or asked call.model) ≡ true) (out : Option (List ℕ)) (status : ℕ)
    (sound : IsSound (bytes_at held call.program) (bytes_at held call.log) asked out status) where
  kept : bytes_at held call.log ≡ (answers.recorded zero).1
  kept = same_Some _ _ (ap (λ h. told_under h call.log) (sym same_held) ∙ holds files e.held call.log (answers.recorded zero).1 (answers.recorded zero).2.1.0)

  pub never_impossible : status ≡ 1 → ⊥
  never_impossible one =
      let known = answers.recorded zero in
      let none = sound.impossible one in
      let pair = none.0 in
      let possible = recorded_possible call (bytes_at files call.program) known.1 known.0 (unwrap_or asked call.model) known.2.0 allowed in
      let r = possible.0 in
      let code = one_code (bytes_at held call.program) r.code pair.code (subst (λ text. IsCodeOf text r.code) (sym same_program) r.programs) pair.programs in
      let run = one_log known.1 _ pair.run r.logged.is_text (subst (λ text. IsLog text pair.run) kept pair.logs) in
      let log : r.logged.log ≡ pair.run.log = ap (λ s. s.log) run in
      let model : unwrap_or asked call.model ≡ model_of asked pair = ap (unwrap_or asked) (sym r.logged.is.model ∙ ap (λ l. l.model) log) in
      none.1 possible.1 (moved model code log possible.1 possible.2)
