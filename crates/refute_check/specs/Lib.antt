pub use Rattle.cnf_core.specs as cnf_core
pub use Rattle.list_laws.specs as list_laws
pub use Rattle.memory_models.specs as memory_models
pub mod Broken
pub mod Kept
pub mod Laws
pub mod Left
pub mod Literals
pub mod Numbers
pub mod Reading
pub mod Refutations
pub mod Texts
pub mod helpers
