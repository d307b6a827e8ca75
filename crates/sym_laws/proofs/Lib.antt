pub use Rattle.path_laws.proofs as path_laws
pub use Rattle.path_laws.proofs.run_follows
pub use Rattle.path_laws.proofs.run_history
pub use Rattle.sym_exec.proofs as sym_exec
pub mod Lists
pub mod Names
pub mod Steps
mod Beside
pub mod Executed
pub mod Follows
mod Born
mod Moves
pub mod Runs
pub mod Valued
pub mod Numbered
pub mod Agree
pub mod Whole
