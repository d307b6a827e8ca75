-- Paths that no search needs.
use Rattle.std.specs.Prelude.{◌⊎◌, ℕ}
use Rattle.tc_code.specs.tc_base.Paths.{Path}
use Rattle.tc_code.specs.Code.{Code}
use Rattle.slot_liveness.specs.pure_turns.Live.{Liveness}
use Rattle.thread_paths.specs.Known.{GoesAgainst}
use Rattle.thread_paths.specs.Turns.{HasTurn}

-- a path through a function shows a pure turn, or goes against a value that it determines
abbrev pub IsNeedless : Code → Liveness → ℕ → Path → Type 0
IsNeedless code live f p = HasTurn code live f p ⊎ GoesAgainst code f p
