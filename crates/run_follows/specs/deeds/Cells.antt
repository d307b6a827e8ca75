-- The cells that requests access.
use Rattle.std.specs.Prelude.{ℕ, Option, Some, None}
use Rattle.run_history.specs.tc_base.declared.request.Request.{Request}
use Rattle.run_history.specs.tc_base.declared.request.Request.TheVariants.{Read, Write, Exchange}

-- the cell that a request accesses, if any
abbrev pub cell_of : Request → Option ℕ
cell_of (Read c) = Some c
cell_of (Write c v) = Some c
cell_of (Exchange c u) = Some c
cell_of _ = None
