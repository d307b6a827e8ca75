pub use Rattle.memory_models.specs as memory_models
pub use Rattle.run_log.specs as run_log
pub use Rattle.tc_base.specs as tc_base
pub mod Texts
pub mod Fields
pub mod Faults
pub mod helpers
