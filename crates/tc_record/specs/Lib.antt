pub use Rattle.path_laws.specs as path_laws
pub use Rattle.path_laws.specs.path_walk
pub use Rattle.run_log.specs as run_log
pub use Rattle.store_buffers.specs as store_buffers
pub use Rattle.tc_base.specs as tc_base
pub use Rattle.tc_code.specs as tc_code
pub mod Ends
pub mod Logged
pub mod Failing
pub mod Seeded
pub mod helpers
