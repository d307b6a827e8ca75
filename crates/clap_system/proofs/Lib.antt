pub use Rattle.sync_order.proofs.condition_order
pub use Rattle.memory_order.proofs as memory_order
pub use Rattle.order_events.proofs as order_events
pub use Rattle.path_walk.proofs as path_walk
pub use Rattle.read_write.proofs as read_write
pub use Rattle.sym_events.proofs as sym_events
pub use Rattle.sym_exec.proofs as sym_exec
pub use Rattle.sym_terms.proofs as sym_terms
pub use Rattle.sync_order.proofs as sync_order
pub mod Tests
pub mod Groups
pub mod Exact
pub mod Needs
pub mod Ready
pub mod Few
pub mod Built
pub mod Whole
pub mod Deep
pub mod Choices
