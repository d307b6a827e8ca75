-- How a call over known files ends that has no result.
use Rattle.std.specs.Prelude.{◌≡◌, ◌⊎◌, List}
use Rattle.command_inputs.specs.tc_io.Outside.{Files}
use Rattle.command_inputs.specs.command_frame.Answers.{IsFaultStatus, number_of}
use Rattle.command_inputs.specs.command_frame.End.{End, LeavesNothing, TellsLimit}
use Rattle.command_inputs.specs.command_frame.Inputs.{AreWithin, IsTooLong, Limit, Wanted, texts_under}
use Rattle.command_inputs.specs.Refusals.{refusal_said}
use Rattle.command_inputs.specs.declared.refusal.Refusal.{Refusal}

-- all is as before, and this refusal was told
abbrev pub TellsRefusal : Files → End → Refusal → Type 0
TellsRefusal files e r =
    (e.status ≡ number_of (refusal_said r).0) × LeavesNothing files e (refusal_said r).1

-- none of these inputs is too long
abbrev pub AreShort : List Wanted → Files → Type 0
AreShort inputs files = AreWithin inputs (texts_under files inputs)

-- for inputs that are refused for reasons that satisfy `IsRefused`
module _ (inputs : List Wanted) (IsRefused : Refusal → Type 0) (files : Files) (e : End) where
  -- but for devices and memory, the first input that is too long is told, or else the refusal
  pub record Declines : Type 0 where
    pub long : (limit : Limit) → IsTooLong inputs (texts_under files inputs) limit
        → TellsLimit files e limit ⊎ IsFaultStatus e.status
    pub refused : (r : Refusal) → AreShort inputs files → IsRefused r
        → TellsRefusal files e r ⊎ IsFaultStatus e.status

  -- one of these was told, or a device or memory failed
  abbrev pub HasDeclined : Type 0
  HasDeclined =
      ((limit : Limit) × IsTooLong inputs (texts_under files inputs) limit
      × TellsLimit files e limit)
      ⊎ ((r : Refusal) × IsRefused r × TellsRefusal files e r) ⊎ IsFaultStatus e.status
