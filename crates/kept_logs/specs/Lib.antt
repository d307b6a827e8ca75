pub use Rattle.path_log.specs as path_log
pub use Rattle.run_log.specs as run_log
pub mod Digests
