pub use Rattle.condition_order.specs as condition_order
pub mod Children
pub mod Mutexes
pub mod Stuck
pub mod Sync
