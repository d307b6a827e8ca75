-- The clauses of a log, with everything that they are made from.
use Rattle.std.specs.Prelude.{◌≡◌, ◌≤◌, Bool, true, List}
use Rattle.std.specs.List.{All}
use Rattle.run_log.specs.Logs.{Log}
use Rattle.schedule_file.specs.tc_limits.declared.limits.TheConstants.{STEPS}
use Rattle.tc_code.specs.Code.{Code}
use Rattle.tc_code.specs.Lawful.{IsLawful}
use Rattle.store_buffers.specs.Pending.{Binding}
use Rattle.run_log.specs.Logs.{is_log}
use Rattle.path_walk.specs.Paths.{Paths, paths_of}
use Rattle.order_formula.specs.sym_terms.declared.node.Node.{Node}
use Rattle.clap_system.specs.sym_exec.Executed.{Symbolic}
use Rattle.order_formula.specs.declared.formula.Conjunct.{Conjunct}
use Rattle.bit_blast.specs.Blasted.{Blasted}
use Rattle.clap_system.specs.Systems.{system_of}
use Rattle.clap_solve.specs.Clauses.{blasted_of}
use Rattle.clap_solve.specs.Solved.{IsWithin}

pub record Posed : Type 0 where
  pub paths : Paths
  -- the symbolic execution of the paths, with terms in place of values
  pub symbolic : Symbolic
  -- the terms
  pub nodes : List Node
  -- the rules of all groups; unless the paths are dead, the last clauses are those of the conjuncts
  pub formula : List Conjunct
  pub blasted : Blasted

-- the parts of a log, by whether there are buffers and which stores are bound
abbrev pub posed_of : Bool → Binding → Code → Log → Posed
posed_of buffered bound code log = record {
  paths = paths_of code log;
  symbolic = (system_of buffered bound code log).symbolic;
  nodes = (system_of buffered bound code log).nodes;
  formula = (system_of buffered bound code log).formula;
  blasted = blasted_of buffered bound code log;
}

-- facts about all code and all logs, and that the log is within the limits
pub record IsGiven (code : Code) (log : Log) : Type 0 where
  pub lawful : IsLawful code
  pub is_log : is_log log ≡ true
  pub steps : All (λ t. t.path.steps ≤ STEPS) log.threads
  pub within : IsWithin code log
