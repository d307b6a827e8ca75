pub use Rattle.clap_solve.specs as clap_solve
pub use Rattle.memory_models.specs as memory_models
pub use Rattle.store_buffers.specs as store_buffers
pub mod Checked
pub mod helpers
