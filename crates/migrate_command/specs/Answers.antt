-- The headline: what `migrate` answers to files that are known.
use Rattle.std.specs.Prelude.{◌≡◌, ◌⊎◌, ℕ, List}
use Rattle.tc_io.specs.Outside.{Files, bytes_at}
use Rattle.command_inputs.specs.command_ends.Ends.{AreShort, Declines, HasDeclined}
use Rattle.command_frame.specs.ByStatus.{IsStatus}
use Rattle.command_frame.specs.End.{End, Leaves}
use Rattle.command_inputs.specs.declared.refusal.Refusal.{Refusal}
use Rattle.migrate_command.specs.Meanings.{Migrate, inputs_of, migrated_line}
use Rattle.migrate_command.specs.Migrated.{IsMigrated, IsUnmigrated}

module _ (call : Migrate) (files : Files) (e : End) where
  -- this is the text of the log in format 2, with the digest of the program
  abbrev pub IsMigratedLog : (text : List ℕ) → Type 0
  IsMigratedLog text = IsMigrated (bytes_at files call.program) (bytes_at files call.log) text

  -- why the log isn't migrated
  abbrev pub IsWhyNot : Refusal → Type 0
  IsWhyNot r = IsUnmigrated (bytes_at files call.program) (bytes_at files call.log) r

  -- the answers of `migrate`
  pub record MigrateAnswers : Type 0 where
    -- OUT holds the text of the log in format 2, with the digest of the program
    pub migrated : e.status ≡ 0
        → (text : List ℕ) × IsMigratedLog text × Leaves files e call.out text migrated_line
    -- a log that fits its program within the limits is migrated, but for devices and memory
    pub complete : (text : List ℕ) → IsMigratedLog text → AreShort (inputs_of call) files
        → IsStatus e.status 0
    -- a file that is refused or too long is told, but for devices and memory
    pub declines : Declines (inputs_of call) IsWhyNot files e
    -- nothing else is answered
    pub others : (e.status ≡ 0) ⊎ HasDeclined (inputs_of call) IsWhyNot files e
