pub use Rattle.order_events.proofs as order_events
pub use Rattle.order_cells.proofs.run_laws
pub mod Found
pub mod Walked
pub mod Whole
pub mod Terms
