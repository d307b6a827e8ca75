pub use Rattle.run_history.specs.list_laws
pub use Rattle.run_history.specs.memory_models
pub use Rattle.run_history.specs as run_history
pub use Rattle.run_history.specs.run_laws
pub use Rattle.run_history.specs.store_buffers
pub use Rattle.run_history.specs.tc_base
pub use Rattle.run_history.specs.tc_code
pub mod Machine
pub mod Follow
pub mod Logged
pub mod blocked
pub mod deeds
