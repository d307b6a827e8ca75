pub use Rattle.run_laws.proofs as run_laws
pub use Rattle.run_laws.proofs.tc_code
pub mod Frame
pub mod Grows
pub mod Ints
pub mod Last
pub mod Lists
pub mod Locals
pub mod Shared
pub mod Threads
pub mod of_pending
