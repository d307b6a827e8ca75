pub use Rattle.walked_logs.proofs as walked_logs
pub mod Idle
pub mod Carried
pub mod Turns
pub mod Agree
pub mod Against
pub mod Shown
pub mod Logs
pub mod Runs
