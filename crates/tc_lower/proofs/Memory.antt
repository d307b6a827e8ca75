-- Cells and functions that are written one after another.
use Rattle.std.proofs.Common.{◌≡◌, ℕ, ◌+◌, ◌≤◌, ℤ, List, ◌++◌, length, map}
use Rattle.tc_code.specs.tc_limits.declared.limits.TheConstants.{CELLS}
use Rattle.tc_code.specs.declared.code.Func.{Func}
use Rattle.tc_tree.specs.declared.program.Global.{Global}
use Rattle.tc_tree.specs.declared.program.Thread.{Thread as TreeThread}
use Rattle.tc_tree.specs.Counts.{cells}
use Rattle.tc_tree.specs.Seen.{thread_of}
use Rattle.tc_lower.specs.declared.things.Named.{Named}
use Rattle.tc_lower.specs.Lowering.{memory_of, thread_function}
use Rattle.tc_lower.specs.helpers.Programs.{ThreadsFit}

-- the cells so far, with those of the remaining globals, are all cells
pub record CellsSoFar (all : List Global) (memory : List ℤ) (rest : List Global) : Type 0 where
  pub written : memory ++ memory_of rest ≡ memory_of all
  pub few : length memory + cells rest ≤ CELLS

-- the functions so far, with those of the remaining threads, are all functions
pub record FunctionsSoFar (source : List ℕ) (all : List Named) (threads : List TreeThread) (functions : List Func) (rest : List TreeThread) : Type 0 where
  pub written : functions ++ map (thread_function source all) (map thread_of rest) ≡ map (thread_function source all) (map thread_of threads)
  pub fit : ThreadsFit source all (map thread_of rest)
