pub use Rattle.list_laws.specs as list_laws
pub use Rattle.memory_models.specs as memory_models
pub use Rattle.tc_base.specs as tc_base
pub mod Buffers
pub mod Pending
pub mod Laws
pub mod helpers
