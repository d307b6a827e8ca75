pub use Rattle.list_laws.specs as list_laws
pub use Rattle.run_log.specs.memory_models
pub use Rattle.run_log.specs as run_log
pub use Rattle.tc_base.specs as tc_base
pub use Rattle.tc_code.specs as tc_code
pub use Rattle.tc_code.specs.tc_limits
pub mod Misfits
pub mod Steps
pub mod Fits
pub mod Marks
pub mod Events
pub mod Paths
pub mod helpers
