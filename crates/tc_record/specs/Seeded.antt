-- Seeded runs: each word of a generator chooses a move, until a test ends the run.
use Rattle.std.specs.Prelude.{◌≡◌, ◌⊎◌, ℕ, ◌+◌, ◌%◌, List, [], ◌∷◌, ◌++◌, length, slice_get, Option, Some, Result, Ok, Err}
use Rattle.std.specs.Option.{option_map_or}
use Rattle.rand_core.specs.Steps.{first_words}
use Rattle.rand_xoshiro.specs.SplitMix64.{mix_u64}
use Rattle.tc_base.specs.Buffers.{BufferOps}
use Rattle.tc_base.specs.States.{State}
use Rattle.run_log.specs.memory_models.declared.model.Model.{Model}
use Rattle.tc_base.specs.declared.moves.Move.{Move}
use Rattle.tc_code.specs.Code.{Code}
use Rattle.tc_code.specs.Step.{step, opening}
use Rattle.run_log.specs.Logs.{StoredLog}
use Rattle.tc_machine.specs.Moves.{enabled_moves}
use Rattle.tc_record.specs.declared.end.End.{End}
use Rattle.tc_record.specs.declared.end.End.TheVariants as end
use Rattle.tc_record.specs.declared.seeded.Seeded.{Seeded}
use Rattle.tc_record.specs.declared.seeded.Seeded.TheVariants.{Failed, Finished, Deadlock, StepLimit}
use Rattle.tc_record.specs.declared.seeded.SeededFault.{SeededFault}
use Rattle.tc_record.specs.declared.seeded.SeededFault.TheVariants.{Limit, Memory}
use Rattle.tc_record.specs.Ends.{limit_of, end_at, end_without_moves}
use Rattle.tc_record.specs.Failing.{failing_line}
use Rattle.tc_record.specs.Logged.{IsLogOf}

-- a run that ended: its moves, the state that they led to, and what ended it
pub record Ended (B : Type 0) : Type 0 where
  pub moves : List Move
  pub state : State B
  pub end : End

-- a run that ends in a state before any move
abbrev pub run_ended_at : {B : Type 0} → State B → End → Ended B
run_ended_at s e = record { moves = []; state = s; end = e }

-- a run with more moves in front
abbrev pub with_moves_before : {B : Type 0} → List Move → Ended B → Ended B
with_moves_before ms run = record run { moves = ms ++ run.moves }

-- the first n words of SplitMix64 with this seed
abbrev pub seed_words : (seed n : ℕ) → List ℕ
seed_words seed n = first_words mix_u64 n seed

module _ {B : Type 0} (ops : BufferOps B) (code : Code) where
  -- the move that a word chooses, if any is enabled
  abbrev pub chosen_move : State B → ℕ → Option Move
  chosen_move s word =
      slice_get (enabled_moves ops code s) (word % length (enabled_moves ops code s))

  -- the run that makes a move and then ends by a test or goes on
  abbrev pub run_by_move : State B → (State B → Ended B) → Move → Ended B
  run_by_move s on m =
      option_map_or
      (λ u. with_moves_before (m ∷ []) (option_map_or (run_ended_at u) (end_at u) (on u)))
      (step ops code s m) (run_ended_at s end.StepLimit)

  -- the run that words choose from a state: one move for each, until it ends or no word is left
  abbrev pub seeded_from : State B → List ℕ → Ended B
  seeded_from s [] = run_ended_at s end.StepLimit
  seeded_from s (word ∷ words) =
      option_map_or (run_by_move s (λ u. seeded_from u words)) (chosen_move s word)
      (run_ended_at s (end_without_moves s))

  -- the run of a seed with at most this many moves
  abbrev pub seeded_run : (seed steps : ℕ) → Ended B
  seeded_run seed steps = seeded_from (opening ops code) (seed_words seed steps)

-- the run has a log, that of its last state: it failed or came to a deadlock
abbrev pub HasLog : {B : Type 0} → Ended B → Type 0
HasLog run = (run.end ≡ end.Failed) ⊎ (run.end ≡ end.Deadlock)

-- an answer that matches the run: its end, its moves, its log if it has one, and the failing line
abbrev pub IsAnswer : {B : Type 0} → Model → Code → Ended B → Result Seeded SeededFault → Type 0
IsAnswer model code run (Ok (Failed log moves line)) =
    (run.end ≡ end.Failed) × (moves.items ≡ run.moves) × IsLogOf model run.state log
    × (failing_line code run.state ≡ Some line)
IsAnswer model code run (Ok (Finished moves)) =
    (run.end ≡ end.Finished) × (moves.items ≡ run.moves)
IsAnswer model code run (Ok (Deadlock log moves)) =
    (run.end ≡ end.Deadlock) × (moves.items ≡ run.moves) × IsLogOf model run.state log
IsAnswer model code run (Ok (StepLimit moves)) =
    (run.end ≡ end.StepLimit) × (moves.items ≡ run.moves)
IsAnswer model code run (Err (Limit which found most)) =
    (run.end ≡ end.Over which) × (found ≡ limit_of which + 1) × (most ≡ limit_of which)
IsAnswer model code run (Err Memory) = Unit {0}

-- P holds of the log and the moves, if the answer is a failure or a deadlock
abbrev pub IfLogged : Result Seeded SeededFault → (StoredLog → List Move → Type 0) → Type 0
IfLogged (Ok (Failed log moves line)) P = P log moves.items
IfLogged (Ok (Deadlock log moves)) P = P log moves.items
IfLogged _ P = Unit {0}
