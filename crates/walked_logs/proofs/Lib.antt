pub use Rattle.normal_logs.proofs as normal_logs
pub use Rattle.normal_logs.proofs.path_laws
pub mod Told
pub mod Names
pub mod Children
pub mod Ends
pub mod Known
pub mod Takes
pub mod Logs
pub mod Failures
pub mod Stands
pub mod Deadlocks
pub mod Rising
pub mod Runs
