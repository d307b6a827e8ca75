pub use Rattle.run_history.proofs as run_history
pub use Rattle.run_history.proofs.run_laws
pub use Rattle.run_history.proofs.tc_code
pub mod Enabled
pub mod Follows
pub mod Plays
pub mod Reproduced
pub mod Stuck
pub mod of_blocked
pub mod of_deeds
