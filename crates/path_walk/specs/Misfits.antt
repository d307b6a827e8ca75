-- The names of the faults that a thread of a log may have.
use Rattle.std.specs.Prelude.{ℕ, List, codes}
use Rattle.path_walk.specs.declared.fault.Misfit.{Misfit}
use Rattle.path_walk.specs.declared.fault.Misfit.TheVariants.{Missing, Stranger, OutcomesShort, OutcomesLeft, PastExit, NotASite, NotBlocked}

abbrev pub misfit_text : Misfit → List ℕ
misfit_text Missing = codes "Missing"
misfit_text Stranger = codes "Stranger"
misfit_text OutcomesShort = codes "OutcomesShort"
misfit_text OutcomesLeft = codes "OutcomesLeft"
misfit_text PastExit = codes "PastExit"
misfit_text NotASite = codes "NotASite"
misfit_text NotBlocked = codes "NotBlocked"
