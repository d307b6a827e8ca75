pub use Rattle.run_laws.proofs as run_laws
pub use Rattle.run_laws.proofs.tc_code
pub mod Owners
pub mod Values
pub mod Locals
pub mod Differ
pub mod Own
pub mod Pure
pub mod Out
pub mod Needs
