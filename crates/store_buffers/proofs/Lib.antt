pub use Rattle.list_laws.proofs as list_laws
pub mod ByCell
pub mod Skips
pub mod Forms
pub mod Oldest
pub mod Queues
