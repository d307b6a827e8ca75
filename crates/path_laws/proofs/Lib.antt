pub use Rattle.run_follows.proofs as run_follows
pub use Rattle.run_follows.proofs.run_history
pub use Rattle.run_follows.proofs.run_laws
pub mod Local
pub mod Does
pub mod States
pub mod Functions
pub mod Prefixes
pub mod Blocked
pub mod Logs
pub mod Deeds
pub mod of_history
pub mod of_events
pub mod of_stuck
