pub use Rattle.sync_order.specs.condition_order
pub use Rattle.order_events.specs.lawful_order
pub use Rattle.memory_order.specs as memory_order
pub use Rattle.memory_order.specs.order_cells
pub use Rattle.order_events.specs as order_events
pub use Rattle.order_formula.specs as order_formula
pub use Rattle.path_walk.specs as path_walk
pub use Rattle.read_write.specs as read_write
pub use Rattle.run_log.specs as run_log
pub use Rattle.store_buffers.specs as store_buffers
pub use Rattle.sym_exec.specs as sym_exec
pub use Rattle.sym_terms.specs as sym_terms
pub use Rattle.sync_order.specs as sync_order
pub use Rattle.run_log.specs.tc_base
pub use Rattle.tc_code.specs as tc_code
pub use Rattle.tc_limits.specs as tc_limits
pub mod Tests
pub mod Systems
pub mod Ready
pub mod Faults
pub mod helpers
