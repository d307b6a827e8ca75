pub use Rattle.memory_order.specs.int_ops
pub use Rattle.memory_order.specs.lawful_order
pub use Rattle.memory_order.specs as memory_order
pub use Rattle.memory_order.specs.order_cells
pub use Rattle.memory_order.specs.tc_base
