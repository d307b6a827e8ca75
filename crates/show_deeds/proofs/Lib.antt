pub use Rattle.run_history.proofs as run_history
pub mod Kept
