-- The clauses of a log with a bound on context switches.
use Rattle.std.specs.Prelude.{ℕ, Bool, if◌then◌else◌}
use Rattle.std.specs.List.{range_with_len}
use Rattle.clap_solve.specs.run_log.Logs.{Log}
use Rattle.clap_solve.specs.tc_code.Code.{Code}
use Rattle.clap_solve.specs.store_buffers.Pending.{Binding}
use Rattle.clap_solve.specs.path_walk.Paths.{Paths, paths_of}
use Rattle.clap_solve.specs.order_formula.Orders.{Order}
use Rattle.clap_solve.specs.cnf_core.Clauses.{Formula}
use Rattle.clap_solve.specs.bit_order.Comparators.{completed}
use Rattle.clap_solve.specs.bit_blast.Blasted.{Blasted, blast, impossible}
use Rattle.clap_solve.specs.switch_order.Levels.{with_levels}
use Rattle.switch_clauses.specs.switch_runs.Worlds.{failing_of, threads_of}
use Rattle.clap_solve.specs.clap_system.Systems.{System, system_of}

-- an order that asks about every two of its events
abbrev pub asked_of_all : Order → Order
asked_of_all o = completed o (range_with_len 0 o.events)

-- a system as clauses over such an order
abbrev pub clauses_over_all_pairs : System → Blasted
clauses_over_all_pairs s = blast s.nodes s.formula (asked_of_all s.order) s.symbolic.loads

-- the same with levels up to `most`
abbrev pub clauses_with_levels : Paths → System → ℕ → Formula
clauses_with_levels paths s most =
    with_levels (clauses_over_all_pairs s).layout (threads_of paths) (failing_of paths) most
    (clauses_over_all_pairs s).clauses

-- the clauses of the log's system, or an impossible formula if the paths are dead
abbrev pub switch_clauses : Bool → Binding → Code → Log → ℕ → Formula
switch_clauses buffered bound code log most =
    if (paths_of code log).dead then impossible.clauses
    else clauses_with_levels (paths_of code log) (system_of buffered bound code log) most
