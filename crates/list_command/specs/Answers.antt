-- The answers of `list` to a known program.
use Rattle.std.specs.Prelude.{◌≡◌, ◌⊎◌, ℕ, ◌<◌, ◌≤◌, List, length}
use Rattle.tc_code.specs.Code.{Code}
use Rattle.tc_code.specs.Listing.{listing_of}
use Rattle.tc_compile.specs.Programs.{IsCodeOf, IsRefusal}
use Rattle.tc_io.specs.Outside.{SinkTells, Wrote}
use Rattle.tc_code.specs.tc_limits.declared.limits.TheConstants.{PROGRAM_BYTES}
use Rattle.tc_compile.specs.tc_parser.declared.fault.TextFault.{TextFault}
use Rattle.command_frame.specs.Answers.{IsFaultStatus, limit_line}
use Rattle.command_frame.specs.ByStatus.{IsStatus}
use Rattle.command_inputs.specs.Limits.{program_limit}
use Rattle.command_inputs.specs.Refusals.{refusal_said}
use Rattle.command_inputs.specs.declared.refusal.Refusal.TheVariants.{Program}

-- the answers, by status
pub record ListAnswers (program : List ℕ) (status : ℕ) (before after : SinkTells) : Type 0 where
  pub listing : status ≡ 0
      → (code : Code) × IsCodeOf program code × Wrote before after (listing_of code)
  pub refused : status ≡ 3
      → (fault : TextFault) × IsRefusal program fault
      × Wrote before after (refusal_said (Program fault)).1
  pub limit : status ≡ 6
      → (PROGRAM_BYTES < length program) × Wrote before after (limit_line program_limit)
  -- a program that isn't too long is listed, and any other text is refused
  pub listed : (code : Code) → IsCodeOf program code → length program ≤ PROGRAM_BYTES
      → IsStatus status 0
  pub unlisted : (fault : TextFault) → IsRefusal program fault → length program ≤ PROGRAM_BYTES
      → IsStatus status 3
  -- no others, but for devices and memory
  pub alone : (status ≡ 0) ⊎ (status ≡ 3) ⊎ (status ≡ 6) ⊎ IsFaultStatus status
