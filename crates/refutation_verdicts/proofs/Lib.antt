pub use Rattle.command_inputs.proofs.command_ends as command_ends
pub use Rattle.switch_clauses.proofs as switch_clauses
pub mod Verdicts
pub mod Judged
