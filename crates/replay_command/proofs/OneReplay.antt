-- What comes of three files is one thing.
use Rattle.std.proofs.Common.{◌≡◌, ℕ, List, [], ◌∷◌, refl, ap, subst, Result, Ok, Err}
use Rattle.command_inputs.proofs.path_log.Logs.{log_or_fault, one_fault, one_log}
use Rattle.command_inputs.specs.path_log.Texts.{IsOfOther}
use Rattle.run_log.specs.Logs.{StoredLog}
use Rattle.schedule_file.proofs.Schedules as schedules
use Rattle.schedule_replay.proofs.OneVerdict.{one_verdict}
use Rattle.schedule_replay.specs.Verdicts.{IsVerdict}
use Rattle.schedule_replay.specs.declared.verdict.Verdict.{Verdict}
use Rattle.store_buffers.specs.Buffers.{buffer_of}
use Rattle.tc_code.specs.Code.{Code}
use Rattle.command_inputs.proofs.tc_compile.OnePrograms.{one_code, one_refusal, refused_no_code}
use Rattle.command_inputs.specs.tc_compile.Programs.{IsRefusal}
use Rattle.command_inputs.specs.tc_parser.declared.fault.TextFault.{TextFault}
use Rattle.command_inputs.proofs.Schedules.{one_schedule, schedule_or_fault}
use Rattle.command_inputs.specs.Forms.{Schedule}
use Rattle.command_inputs.specs.declared.refusal.LogRefusal.{LogRefusal}
use Rattle.command_inputs.specs.declared.refusal.LogRefusal.TheVariants.{Form, OtherProgram, Unfit}
use Rattle.command_inputs.specs.declared.refusal.Refusal.{Refusal}
use Rattle.command_inputs.specs.declared.refusal.Refusal.TheVariants as refusal
use Rattle.replay_command.specs.Causes.{IsReplayed, IsUnreplayed, Replays}

-- what comes of three files
abbrev pub IsReplay : (program log schedule : List ℕ) → Result Verdict Refusal → Type 0
IsReplay program log schedule x = Replays (program ∷ log ∷ schedule ∷ []) x

-- the verdict on what a schedule does with a log
abbrev IsJudged : Code → StoredLog → Schedule → Verdict → Type 0
IsJudged code run plan v = IsVerdict (buffer_of plan.model) code run.log plan.moves v

module _ (program log schedule : List ℕ) where
  abbrev IsLogRefused : LogRefusal → Type 0
  IsLogRefused r = IsUnreplayed program log schedule (refusal.Log r)

  abbrev IsScheduleRefused : ℕ → Type 0
  IsScheduleRefused n = IsUnreplayed program log schedule (refusal.Schedule n)

  one_replayed : (v w : Verdict) → IsReplayed program log schedule v → IsReplayed program log schedule w → v ≡ w
  one_replayed v w f g =
      let a = f.files in
      let b = g.files in
      let codes = one_code program b.pair.code a.pair.code b.pair.programs a.pair.programs in
      let runs = one_log log b.pair.run a.pair.run b.pair.logs a.pair.logs in
      let plans = one_schedule schedule b.plan a.plan b.schedules a.schedules in
      let judged : IsJudged a.pair.code a.pair.run a.plan w = subst (λ c. IsJudged c a.pair.run a.plan w) codes
      (subst (λ l. IsJudged b.pair.code l a.plan w) runs (subst (λ p. IsJudged b.pair.code b.pair.run p w) plans g.verdict)) in
      one_verdict (buffer_of a.plan.model) a.pair.code a.pair.run.log a.plan.moves v w f.verdict judged

  one_log_refused : (r q : LogRefusal) → IsLogRefused r → IsLogRefused q → r ≡ q
  one_log_refused (Form o) (Form p) f g = ap (λ x. Form x) (one_fault log o p f.2 g.2)
  one_log_refused (Form o) OtherProgram f g = absurd (log_or_fault log g.0.pair.run o g.0.pair.logs f.2)
  one_log_refused OtherProgram (Form p) f g = absurd (log_or_fault log f.0.pair.run p f.0.pair.logs g.2)
  one_log_refused OtherProgram OtherProgram f g = refl
  one_log_refused (Unfit _ _) q f g = absurd f
  one_log_refused r (Unfit _ _) f g = absurd g

  log_or_program : (r : LogRefusal) (q : TextFault) → IsLogRefused r → IsRefusal program q → ⊥
  log_or_program (Form o) q f g = refused_no_code program q f.0 g f.1
  log_or_program OtherProgram q f g = refused_no_code program q f.0.pair.code g f.0.pair.programs
  log_or_program (Unfit _ _) q f g = f

  log_or_schedule : (r : LogRefusal) (n : ℕ) → IsLogRefused r → IsScheduleRefused n → ⊥
  log_or_schedule (Form o) n f g = log_or_fault log g.0.run o g.0.logs f.2
  log_or_schedule OtherProgram n f g = schedule_or_fault schedule f.0.plan n f.0.schedules g.1
  log_or_schedule (Unfit _ _) n f g = f

  log_or_verdict : (r : LogRefusal) (v : Verdict) → IsLogRefused r → IsReplayed program log schedule v → ⊥
  log_or_verdict (Form o) v f g = log_or_fault log g.files.pair.run o g.files.pair.logs f.2
  log_or_verdict OtherProgram v f g = g.own (subst (λ l. IsOfOther program l) (one_log log f.0.pair.run g.files.pair.run f.0.pair.logs g.files.pair.logs) f.1)
  log_or_verdict (Unfit _ _) v f g = f

  one_unreplayed : (r q : Refusal) → IsUnreplayed program log schedule r → IsUnreplayed program log schedule q → r ≡ q
  one_unreplayed (refusal.Program r) (refusal.Program q) f g = ap (λ x. refusal.Program x) (one_refusal program r q f g)
  one_unreplayed (refusal.Program r) (refusal.Log q) f g = absurd (log_or_program q r g f)
  one_unreplayed (refusal.Program r) (refusal.Schedule n) f g = absurd (refused_no_code program r g.0.code f g.0.programs)
  one_unreplayed (refusal.Log r) (refusal.Program q) f g = absurd (log_or_program r q f g)
  one_unreplayed (refusal.Log r) (refusal.Log q) f g = ap (λ x. refusal.Log x) (one_log_refused r q f g)
  one_unreplayed (refusal.Log r) (refusal.Schedule n) f g = absurd (log_or_schedule r n f g)
  one_unreplayed (refusal.Schedule m) (refusal.Program q) f g = absurd (refused_no_code program q f.0.code g f.0.programs)
  one_unreplayed (refusal.Schedule m) (refusal.Log q) f g = absurd (log_or_schedule q m g f)
  one_unreplayed (refusal.Schedule m) (refusal.Schedule n) f g =
      ap (λ x. refusal.Schedule x) (schedules.one_fault schedule m n f.1 g.1)
  one_unreplayed (refusal.Program _) _ f g = absurd g
  one_unreplayed (refusal.Log _) _ f g = absurd g
  one_unreplayed (refusal.Schedule _) _ f g = absurd g
  one_unreplayed _ q f g = absurd f

  refused_or_verdict : (r : Refusal) (v : Verdict) → IsUnreplayed program log schedule r → IsReplayed program log schedule v → ⊥
  refused_or_verdict (refusal.Program r) v f g = refused_no_code program r g.files.pair.code f g.files.pair.programs
  refused_or_verdict (refusal.Log r) v f g = log_or_verdict r v f g
  refused_or_verdict (refusal.Schedule n) v f g = schedule_or_fault schedule g.files.plan n g.files.schedules f.1
  refused_or_verdict _ v f g = f

  pub one_replay : (a b : Result Verdict Refusal) → IsReplay program log schedule a → IsReplay program log schedule b → a ≡ b
  one_replay (Ok v) (Ok w) f g = ap (λ x. Ok x) (one_replayed v w f g)
  one_replay (Ok v) (Err q) f g = absurd (refused_or_verdict q v g f)
  one_replay (Err r) (Ok w) f g = absurd (refused_or_verdict r w f g)
  one_replay (Err r) (Err q) f g = ap (λ x. Err x) (one_unreplayed r q f g)
