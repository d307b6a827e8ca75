pub use Rattle.memory_order.proofs as memory_order
pub use Rattle.memory_order.proofs.order_cells
pub mod Same
