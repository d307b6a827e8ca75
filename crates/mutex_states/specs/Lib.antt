pub use Rattle.bit_blast.specs as bit_blast
pub use Rattle.circuit_sizes.specs as circuit_sizes
pub use Rattle.mutex_regions.specs as mutex_regions
pub mod Extending
pub mod Ranks
pub mod Steps
pub mod Sizes
pub mod InOrder
pub mod States
pub mod Truths
pub mod Going
pub mod Adding
pub mod Laws
pub mod helpers
