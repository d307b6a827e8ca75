pub use Rattle.int_ops.specs as int_ops
pub use Rattle.run_log.specs.memory_models
pub use Rattle.run_log.specs as run_log
pub use Rattle.run_log.specs.tc_base
pub use Rattle.tc_limits.specs as tc_limits
pub mod Expr
pub mod Node
pub mod Code
pub mod Lawful
pub mod Step
pub mod Run
pub mod Listing
pub mod helpers
