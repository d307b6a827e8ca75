pub use Rattle.cdcl_propagate.proofs as cdcl_propagate
pub mod Deciding
pub mod Backing
pub mod OneMore
pub mod Rooting
pub mod Dropped
pub mod Loads
pub mod Undone
