-- The headline: what statuses 0 and 1 of `solve` mean.
use Rattle.std.specs.Prelude.{◌≡◌, ℕ, List, Option, None, IsSomeAnd}
use Rattle.log_tasks.specs.Tasks.{Reproduces, model_of}
use Rattle.memory_models.specs.declared.model.Model.{Model}
use Rattle.record_command.specs.tc_base.declared.moves.Move.{Move}
use Rattle.tc_io.specs.Outside.{Files, bytes_at, told_under}
use Rattle.clap_debug_words.specs.Calls.{Called, Solves}
use Rattle.clap_debug_cli.specs.command_inputs.Forms.{IsSchedule, Pair}

-- of the bytes of a program and a log, the memory model that is asked for, what OUT holds, and the
-- status
pub record IsSound (program log : List ℕ) (asked : Option Model) (out : Option (List ℕ))
    (status : ℕ) : Type 0 where
  -- OUT holds a schedule whose moves reproduce the log
  pub reproduced : status ≡ 0
      → (pair : Pair program log) × (moves : List Move) × Reproduces asked pair moves
      × IsSomeAnd out
      (λ text. IsSchedule text (record { model = model_of asked pair; moves = moves }))
  -- no moves reproduce the log
  pub impossible : status ≡ 1
      → (pair : Pair program log) × ((moves : List Move) → Reproduces asked pair moves → ⊥)

-- `solve PROGRAM LOG OUT` is sound
abbrev pub SoundOf : Called → Files → (held : Option Files) → (status : ℕ) → Type 0
SoundOf (Solves program log out model budget None) files held status =
    IsSound (bytes_at files program) (bytes_at files log) model (told_under held out) status
SoundOf _ files held status = Unit {0}
