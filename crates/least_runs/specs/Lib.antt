pub use Rattle.run_follows.specs.memory_models
pub use Rattle.run_follows.specs as run_follows
pub use Rattle.run_follows.specs.run_history
pub use Rattle.run_follows.specs.store_buffers
pub mod Least
pub mod Unused
