-- The text that main has for each worker.
use Rattle.std.specs.Prelude.{ℕ, List}
use Rattle.tc_workload.specs.Workload.{declares, creates, joins, adds}
use Rattle.tc_workload.specs.declared.program.Piece.{Piece}
use Rattle.tc_workload.specs.declared.program.Piece.TheVariants.{Declares, Creates, Joins, Adds}

abbrev pub written : Piece → ℕ → List ℕ
written Declares = declares
written Creates = creates
written Joins = joins
written Adds = adds
