pub use Rattle.store_buffers.specs.list_laws
pub use Rattle.store_buffers.specs.memory_models
pub use Rattle.run_laws.specs as run_laws
pub use Rattle.run_laws.specs.run_log
pub use Rattle.store_buffers.specs as store_buffers
pub use Rattle.store_buffers.specs.tc_base
pub use Rattle.run_laws.specs.tc_code
pub mod History
pub mod Ints
pub mod Last
pub mod Locals
pub mod Told
pub mod pending
