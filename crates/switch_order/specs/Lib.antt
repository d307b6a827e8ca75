pub use Rattle.bit_order.specs as bit_order
pub use Rattle.cnf_core.specs as cnf_core
pub use Rattle.order_switches.specs.int_ops
pub mod Levels
pub mod Laws
pub mod Sizes
pub mod helpers
