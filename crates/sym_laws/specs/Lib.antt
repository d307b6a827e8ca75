pub use Rattle.path_laws.specs as path_laws
pub use Rattle.path_laws.specs.run_follows
pub use Rattle.path_laws.specs.run_history
pub use Rattle.sym_exec.specs as sym_exec
pub mod Valued
pub mod Loads
