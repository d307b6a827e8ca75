pub use Rattle.int_ops.specs as int_ops
pub use Rattle.lawful_order.specs as lawful_order
pub use Rattle.sym_exec.specs.list_laws
pub use Rattle.sym_exec.specs.memory_models
pub use Rattle.sym_exec.specs.run_log
pub use Rattle.lawful_order.specs.store_buffers
pub use Rattle.sym_exec.specs as sym_exec
pub use Rattle.sym_terms.specs as sym_terms
pub use Rattle.sym_exec.specs.tc_base
pub use Rattle.sym_exec.specs.tc_code
pub mod Same
pub mod Terms
