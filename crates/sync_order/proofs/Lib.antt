pub use Rattle.condition_order.proofs as condition_order
pub mod Groups
pub mod Pairs
pub mod Links
pub mod Regions
pub mod Deadlocks
pub mod Literals
pub mod Whole
