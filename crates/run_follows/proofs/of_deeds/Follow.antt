-- Any first part of deeds that follow follows too.
use Rattle.std.proofs.Common.{◌∙◌, Bool, List, ◌∷◌, ◌++◌, ap, append_assoc}
use Rattle.run_history.specs.tc_code.Code.{Code}
use Rattle.run_history.specs.store_buffers.Pending.{Binding}
use Rattle.run_history.specs.History.{Deed}
use Rattle.run_follows.specs.Follow.{AllFollow}

pub first_follow : (buffered : Bool) (bound : Binding) (code : Code) (first later : List Deed) → AllFollow buffered bound code (first ++ later)
    → AllFollow buffered bound code first
first_follow buffered bound code first later all older newer d is =
    all older (newer ++ later) d (ap (λ h. h ++ later) is ∙ append_assoc older (d ∷ newer) later)
