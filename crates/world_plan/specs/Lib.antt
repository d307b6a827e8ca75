pub use Rattle.sym_laws.specs.path_laws
pub use Rattle.sym_laws.specs.run_follows
pub use Rattle.sym_laws.specs.run_history
pub use Rattle.sym_laws.specs as sym_laws
pub mod Sights
pub mod Plan
pub mod Going
