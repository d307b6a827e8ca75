-- What `migrate` means.
use Rattle.std.specs.Prelude.{ℕ, List, [], ◌∷◌, Result, Ok, Err, codes}
use Rattle.command_inputs.specs.command_ends.Outcomes.{Report, command_of}
use Rattle.command_frame.specs.Inputs.{Texts, Wanted, Whole}
use Rattle.command_frame.specs.Meaning.{Meaning}
use Rattle.command_frame.specs.declared.status.Status.TheVariants.{Done}
use Rattle.command_inputs.specs.Limits.{log_limit, program_limit}
use Rattle.command_inputs.specs.declared.refusal.Refusal.{Refusal}
use Rattle.migrate_command.specs.Migrated.{IsMigrated, IsUnmigrated}
use Rattle.migrate_command.specs.declared.migrate.Migration.{Migration}
use Rattle.migrate_command.specs.declared.command.Migrate.{Migrate as RawMigrate}

-- `migrate PROGRAM LOG OUT`: the names of its files
pub record Migrate : Type 0 where
  pub program : List ℕ
  pub log : List ℕ
  pub out : List ℕ

abbrev pub plain_migrate : RawMigrate → Migrate
plain_migrate call = record {
  program = call.inputs.0.name.now;
  log = call.inputs.1.name.now;
  out = call.out.now;
}

abbrev pub inputs_of : Migrate → List Wanted
inputs_of call = Whole program_limit call.program ∷ Whole log_limit call.log ∷ []

-- what comes of the bytes of the files: the text of the migrated log, or why there is none
abbrev pub ComesTo : Texts → Result Migration Refusal → Type 0
ComesTo (program ∷ log ∷ []) (Ok x) = IsMigrated program log x.text.items
ComesTo (program ∷ log ∷ []) (Err r) = IsUnmigrated program log r
ComesTo _ outcome = ⊥

abbrev pub migrated_line : List ℕ
migrated_line = codes "migrated\n"

-- what is done with a migrated log: its text is kept as OUT
abbrev pub report_of : Migrate → Report Migration
report_of call = record {
  keeps_of = λ x. record { name = call.out; bytes = x.text.items } ∷ [];
  line_of = λ _. migrated_line;
  status_of = λ _. Done;
}

-- `migrate`
abbrev pub migrate_of : Migrate → Meaning (Result Migration Refusal)
migrate_of call = command_of (inputs_of call) ComesTo (report_of call)
