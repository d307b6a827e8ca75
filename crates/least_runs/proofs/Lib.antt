pub use Rattle.run_follows.proofs as run_follows
pub use Rattle.run_follows.proofs.run_history
pub use Rattle.run_follows.proofs.run_laws
pub mod Skips
pub mod Used
pub mod Unseen
pub mod Reached
pub mod Locals
pub mod Follows
pub mod Part
pub mod Least
pub mod Ends
