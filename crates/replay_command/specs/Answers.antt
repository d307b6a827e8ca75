-- The answers of `replay` to three known files.
use Rattle.std.specs.Prelude.{◌≡◌, ◌≢◌, ◌⊎◌, ℕ, List, [], ◌∷◌, Result}
use Rattle.schedule_replay.specs.declared.verdict.Verdict.{Verdict}
use Rattle.schedule_replay.specs.declared.verdict.Verdict.TheVariants.{Reproduces}
use Rattle.command_inputs.specs.tc_compile.Programs.{IsRefusal}
use Rattle.tc_io.specs.Outside.{SinkTells, Wrote}
use Rattle.command_inputs.specs.tc_parser.declared.fault.TextFault.{TextFault}
use Rattle.command_frame.specs.Answers.{IsFaultStatus, limit_line, number_of}
use Rattle.command_frame.specs.ByStatus.{IsStatus}
use Rattle.command_frame.specs.Inputs.{AreWithin, IsTooLong, Limit}
use Rattle.command_inputs.specs.Outcomes.{outcome_status}
use Rattle.command_inputs.specs.Refusals.{refusal_said}
use Rattle.command_inputs.specs.declared.refusal.LogRefusal.{LogRefusal}
use Rattle.command_inputs.specs.declared.refusal.Refusal.{Refusal}
use Rattle.command_inputs.specs.declared.refusal.Refusal.TheVariants.{Program, Log, Schedule}
use Rattle.replay_command.specs.Causes.{IsReplayed, IsUnreplayed, Replays}
use Rattle.replay_command.specs.Lines.{verdict_said}
use Rattle.replay_command.specs.Meanings.{files_of}

-- the first of the three that is too long passes this limit, whatever their names
abbrev pub IsFirstTooLong : (program log schedule : List ℕ) → Limit → Type 0
IsFirstTooLong program log schedule limit =
    IsTooLong (files_of [] [] []) (program ∷ log ∷ schedule ∷ []) limit

-- none of the three is too long
abbrev pub AreShort : (program log schedule : List ℕ) → Type 0
AreShort program log schedule = AreWithin (files_of [] [] []) (program ∷ log ∷ schedule ∷ [])

-- the answers, by status
pub record ReplayAnswers (program log schedule : List ℕ) (status : ℕ)
    (before after : SinkTells) : Type 0 where
  pub reproduces : status ≡ 0
      → IsReplayed program log schedule Reproduces × Wrote before after (verdict_said Reproduces).1
  pub differs : status ≡ 1
      → (v : Verdict) × (v ≢ Reproduces) × IsReplayed program log schedule v
      × Wrote before after (verdict_said v).1
  pub refused : status ≡ 3
      → (fault : TextFault) × IsRefusal program fault
      × Wrote before after (refusal_said (Program fault)).1
  pub log_refused : status ≡ 4
      → (r : LogRefusal) × IsUnreplayed program log schedule (Log r)
      × Wrote before after (refusal_said (Log r)).1
  pub schedule_refused : status ≡ 5
      → (line : ℕ) × IsUnreplayed program log schedule (Schedule line)
      × Wrote before after (refusal_said (Schedule line)).1
  pub limit : status ≡ 6
      → (limit : Limit) × IsFirstTooLong program log schedule limit
      × Wrote before after (limit_line limit)
  -- what comes of files that aren't too long is what is answered
  pub exactly : (x : Result Verdict Refusal) → AreShort program log schedule
      → Replays (program ∷ log ∷ schedule ∷ []) x
      → IsStatus status (number_of (outcome_status (λ v. (verdict_said v).0) x))
  -- no others, but for devices and memory
  pub alone : (status ≡ 0) ⊎ (status ≡ 1) ⊎ (status ≡ 3) ⊎ (status ≡ 4) ⊎ (status ≡ 5)
      ⊎ (status ≡ 6) ⊎ IsFaultStatus status
