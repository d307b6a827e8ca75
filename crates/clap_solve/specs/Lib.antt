pub use Rattle.bit_blast.specs as bit_blast
pub use Rattle.bit_blast.specs.bit_gates
pub use Rattle.bit_blast.specs.bit_ops
pub use Rattle.bit_blast.specs.bit_order
pub use Rattle.bit_blast.specs.bit_terms
pub use Rattle.cdcl_core.specs as cdcl_core
pub use Rattle.clap_system.specs as clap_system
pub use Rattle.cnf_core.specs as cnf_core
pub use Rattle.clap_system.specs.condition_order
pub use Rattle.clap_system.specs.memory_order
pub use Rattle.order_formula.specs as order_formula
pub use Rattle.orders_are_runs.specs as orders_are_runs
pub use Rattle.path_walk.specs as path_walk
pub use Rattle.clap_system.specs.read_write
pub use Rattle.refute_check.specs as refute_check
pub use Rattle.run_log.specs as run_log
pub use Rattle.schedule_decode.specs as schedule_decode
pub use Rattle.schedule_file.specs as schedule_file
pub use Rattle.store_buffers.specs as store_buffers
pub use Rattle.clap_solve.specs.formula_sizes.switch_order
pub use Rattle.clap_system.specs.sym_exec as sym_exec
pub use Rattle.order_formula.specs.sym_terms as sym_terms
pub use Rattle.clap_system.specs.sync_order
pub use Rattle.tc_code.specs as tc_code
pub use Rattle.dimacs_text.specs.tc_decimal
pub mod Clauses
pub mod Faults
pub mod Imported
pub mod Posed
pub mod Solved
pub mod helpers
pub mod mutex_rules
pub mod formula_sizes
