-- A state in which no move is enabled, or some move is.
use Rattle.std.proofs.Common.{◌≡◌, ◌∙◌, inl, Bool, true, false, List, length, map, None, IsSome, sym}
use Rattle.std.specs.Prelude.{◌==◌}
use Rattle.std.specs.Bool.{MatchBool}
use Rattle.std.specs.List.{Contains}
use Rattle.tc_base.specs.Buffers.{BufferOps}
use Rattle.tc_base.specs.States.{State}
use Rattle.tc_base.specs.declared.moves.Move.{Move}
use Rattle.tc_code.specs.Code.{Code}
use Rattle.tc_code.specs.Step.{step}
use Rattle.tc_code.specs.Run.{IsStuck}
use Rattle.tc_machine.specs.Exits.{all_have_exited}
use Rattle.tc_machine.specs.Moves.{move_of, enabled_moves}
use Rattle.tc_machine.specs.declared.choice.Choice.{Choice}
use Rattle.tc_machine.proofs.Exits.{some_is_left}
use Rattle.tc_machine.proofs.Listing.{some_is_enabled, none_is_enabled}
use Rattle.schedule_replay.specs.Verdicts.{GoesOn}

-- if some thread hasn't exited, the state is stuck or goes on, by whether a move is listed
pub stuck_or_goes_on : {B : Type 0} (ops : BufferOps B) (code : Code) (s : State B) (choices : List Choice)
    → map move_of choices ≡ enabled_moves ops code s → ((m : Move) → IsSome (step ops code s m) → Contains (map move_of choices) m)
    → s.failed ≡ None → all_have_exited s ≡ false → (b : Bool) → b ≡ (length choices == 0) → MatchBool b (IsStuck ops code s) (GoesOn ops code s)
stuck_or_goes_on ops code s choices listed all unfailed left true none =
    record { unfailed = unfailed; still = none_is_enabled ops code s choices all (sym none); left = some_is_left s left }
stuck_or_goes_on ops code s choices listed all unfailed left false some = inl (some_is_enabled ops code s choices listed (sym some))
