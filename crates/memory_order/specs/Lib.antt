pub use Rattle.sym_terms.specs.int_ops
pub use Rattle.order_cells.specs.lawful_order
pub use Rattle.order_cells.specs as order_cells
pub use Rattle.order_formula.specs as order_formula
pub use Rattle.path_walk.specs as path_walk
pub use Rattle.store_buffers.specs as store_buffers
pub use Rattle.sym_exec.specs as sym_exec
pub use Rattle.sym_terms.specs as sym_terms
pub use Rattle.store_buffers.specs.tc_base
pub use Rattle.path_walk.specs.tc_code
pub mod Twos
pub mod Own
pub mod helpers
