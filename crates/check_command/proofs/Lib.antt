pub use Rattle.command_inputs.proofs.path_log
pub use Rattle.command_inputs.proofs.tc_compile
pub use Rattle.refutation_input.proofs.clap_solve
pub mod Excluded
pub mod Known
pub mod ByStatus
