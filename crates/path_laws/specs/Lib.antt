pub use Rattle.path_walk.specs as path_walk
pub use Rattle.run_follows.specs as run_follows
pub use Rattle.run_follows.specs.run_history
pub use Rattle.run_follows.specs.store_buffers
pub use Rattle.path_walk.specs.tc_code
pub mod Setting
pub mod Along
pub mod Deeds
pub mod Prefixes
pub mod history
pub mod events
pub mod stuck
