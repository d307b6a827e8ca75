pub use Rattle.switch_order.proofs as switch_order
pub mod Sums
pub mod Terms
pub mod Own
pub mod Loads
pub mod Sync
pub mod Waits
pub mod Walks
pub mod Whole
pub mod Room
