-- A turn of a seeded run, and what ends it.
use Rattle.std.specs.Prelude.{◌≡◌, ℕ, List, ◌∷◌, Option, Some, None, IsSome}
use Rattle.std.specs.Option.{option_map_or}
use Rattle.tc_base.specs.Buffers.{BufferOps}
use Rattle.tc_base.specs.States.{State}
use Rattle.tc_base.specs.declared.moves.Move.{Move}
use Rattle.tc_code.specs.Code.{Code}
use Rattle.tc_code.specs.Run.{IsStuck}
use Rattle.tc_record.specs.declared.end.End.{End}
use Rattle.tc_record.specs.declared.end.End.TheVariants as end
use Rattle.tc_record.specs.Seeded.{run_ended_at, with_moves_before, seeded_from}
use Rattle.tc_record.specs.helpers.Paths.{IsWithin}

module _ {B : Type 0} (ops : BufferOps B) (code : Code) where
  -- what is known of a state in which a run ends this way, or from which it goes on
  abbrev pub IsEndAt : State B → Option End → Type 0
  IsEndAt s None = IsWithin s × (s.failed ≡ None)
  IsEndAt s (Some end.Failed) = IsWithin s × IsSome s.failed
  IsEndAt s (Some end.Deadlock) = IsWithin s × IsStuck ops code s
  IsEndAt s _ = Unit {0}

  -- a turn with a word ends the run this way, or takes it from s to u, whatever words follow
  abbrev pub IsTurn : (s u : State B) (before after : List Move) → ℕ → Option End → Type 0
  IsTurn s u before after word end =
      (words : List ℕ) → with_moves_before before (seeded_from ops code s (word ∷ words))
      ≡ option_map_or (λ e. with_moves_before after (run_ended_at u e)) end
      (with_moves_before after (seeded_from ops code u words))
