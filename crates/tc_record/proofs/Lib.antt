pub use Rattle.path_laws.proofs as path_laws
pub use Rattle.tc_code.proofs as tc_code
pub mod Ends
pub mod Format
pub mod Paths
pub mod Reached
pub mod Runs
pub mod Places
pub mod Sizes
pub mod Leads
pub mod Fitting
pub mod OneLog
pub mod Ended
