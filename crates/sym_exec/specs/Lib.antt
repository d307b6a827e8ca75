pub use Rattle.int_ops.specs as int_ops
pub use Rattle.path_walk.specs.list_laws
pub use Rattle.tc_code.specs.memory_models
pub use Rattle.path_walk.specs as path_walk
pub use Rattle.run_laws.specs as run_laws
pub use Rattle.tc_code.specs.run_log
pub use Rattle.sym_terms.specs as sym_terms
pub use Rattle.tc_base.specs as tc_base
pub use Rattle.tc_code.specs as tc_code
pub mod Making
pub mod Thread
pub mod Executed
pub mod helpers
pub mod Alone
pub mod Runs
pub mod Ints
