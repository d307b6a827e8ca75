pub use Rattle.thread_paths.specs.path_walk
pub use Rattle.run_log.specs as run_log
pub use Rattle.tc_base.specs as tc_base
pub use Rattle.tc_code.specs as tc_code
pub use Rattle.thread_paths.specs as thread_paths
pub mod Told
pub mod Rest
pub mod Needless
pub mod Order
pub mod Given
pub mod helpers
