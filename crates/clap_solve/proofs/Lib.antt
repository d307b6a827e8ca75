pub use Rattle.bit_blast.proofs as bit_blast
pub use Rattle.bit_blast.proofs.bit_gates
pub use Rattle.bit_blast.proofs.bit_order
pub use Rattle.bit_blast.proofs.bit_terms
pub use Rattle.clap_system.proofs as clap_system
pub use Rattle.clap_system.proofs.condition_order
pub use Rattle.clap_system.proofs.memory_order
pub use Rattle.order_formula.proofs as order_formula
pub use Rattle.orders_are_runs.proofs as orders_are_runs
pub use Rattle.clap_system.proofs.read_write
pub use Rattle.refute_check.proofs as refute_check
pub use Rattle.schedule_file.proofs as schedule_file
pub use Rattle.clap_solve.proofs.formula_sizes.switch_order
pub use Rattle.clap_system.proofs.sym_events
pub use Rattle.schedule_decode.proofs.sym_laws
pub use Rattle.clap_system.proofs.sync_order
pub use Rattle.dimacs_text.proofs.tc_decimal
pub mod Ordered
pub mod Loads
pub mod Room
pub mod Drafted
pub mod Meaning
pub mod Found
pub mod Answered
pub mod Posing
pub mod Models
