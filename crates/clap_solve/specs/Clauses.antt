-- The clauses of a log, for each code, log and memory model: `solve` and `check` share this list.
use Rattle.std.specs.Prelude.{Bool, if◌then◌else◌}
use Rattle.store_buffers.specs.Buffers.{buffer_of}
use Rattle.run_log.specs.Logs.{Log}
use Rattle.run_log.specs.memory_models.declared.model.Model.{Model}
use Rattle.run_log.specs.memory_models.declared.model.Model.TheVariants.{Sc, Tso, Pso}
use Rattle.tc_code.specs.Code.{Code}
use Rattle.store_buffers.specs.Pending.{Binding, binds_all, binds_cells}
use Rattle.path_walk.specs.Paths.{paths_of}
use Rattle.cnf_core.specs.Clauses.{Formula}
use Rattle.bit_blast.specs.Blasted.{Blasted, impossible, layout_of}
use Rattle.bit_blast.specs.Drafts.{Draft, asserted, drafted}
use Rattle.clap_system.specs.Systems.{System, system_of}
use Rattle.mutex_clauses.specs.mutex_states.States.{with_states}

-- the clauses of a system with the states of its mutexes, before its conjuncts are asserted
unfoldable pub drafted_by : Code → System → Draft
drafted_by code s =
    with_states code s.paths s.symbolic s.nodes s.formula
    (drafted s.nodes s.formula (layout_of s.order s.symbolic.loads s.formula))

-- a system as clauses: the last ones assert its conjuncts
abbrev pub blasted_by : Code → System → Blasted
blasted_by code s = asserted (drafted_by code s)

-- the log's system as clauses, or an impossible formula if the paths are dead
abbrev pub blasted_of : Bool → Binding → Code → Log → Blasted
blasted_of buffered bound code log =
    if (paths_of code log).dead then impossible
    else blasted_by code (system_of buffered bound code log)

-- the clauses of a log, by whether there are buffers and which stores are bound
abbrev pub clauses_of : Bool → Binding → Code → Log → Formula
clauses_of buffered bound code log = (blasted_of buffered bound code log).clauses

-- the stores that a memory model binds
abbrev pub bound_of : Model → Binding
bound_of Sc = binds_all
bound_of Tso = binds_all
bound_of Pso = binds_cells

-- the clauses under a memory model
abbrev pub model_clauses : Model → Code → Log → Formula
model_clauses model code log = clauses_of (buffer_of model).buffered (bound_of model) code log
