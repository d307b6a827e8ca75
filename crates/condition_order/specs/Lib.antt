pub use Rattle.order_events.specs.lawful_order
pub use Rattle.path_walk.specs.list_laws
pub use Rattle.path_walk.specs.memory_models
pub use Rattle.order_formula.specs as order_formula
pub use Rattle.path_walk.specs as path_walk
pub use Rattle.order_events.specs.run_laws
pub use Rattle.path_walk.specs.run_log
pub use Rattle.order_events.specs.store_buffers
pub use Rattle.order_events.specs.sym_exec
pub use Rattle.order_formula.specs.sym_terms
pub use Rattle.path_walk.specs.tc_base
pub use Rattle.path_walk.specs.tc_code
pub mod Conditions
