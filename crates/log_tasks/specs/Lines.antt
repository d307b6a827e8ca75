-- The lines of what searches find.
use Rattle.std.specs.Prelude.{ℕ, List, ◌++◌, length, codes}
use Rattle.std.specs.Fmt.{decimal}
use Rattle.refute_check.specs.declared.line.Line.{Line}
use Rattle.run_log.specs.tc_base.declared.moves.Move.{Move}

abbrev pub moves_line : List Move → List ℕ
moves_line moves = codes "schedule " ++ (decimal (length moves) ++ codes " moves\n")

abbrev pub impossible_line : List Line → List ℕ
impossible_line lines = codes "impossible, " ++ (decimal (length lines) ++ codes " lines\n")

-- the search was given up after this many conflicts
abbrev pub spent_line : (conflicts : ℕ) → List ℕ
spent_line conflicts = codes "spent after " ++ (decimal conflicts ++ codes " conflicts\n")
