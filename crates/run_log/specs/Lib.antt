pub use Rattle.memory_models.specs as memory_models
pub use Rattle.tc_base.specs as tc_base
pub mod Logs
