pub use Rattle.walked_logs.proofs as walked_logs
pub mod Same
pub mod Through
pub mod Below
pub mod Many
pub mod Tried
pub mod Runs
pub mod Rounds
pub mod Steps
