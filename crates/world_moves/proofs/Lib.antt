pub use Rattle.order_cells.proofs as order_cells
pub use Rattle.order_events.proofs as order_events
pub use Rattle.world_plan.proofs.path_laws
pub use Rattle.world_plan.proofs.run_follows
pub use Rattle.world_plan.proofs.run_history
pub use Rattle.world_plan.proofs.sym_laws
pub use Rattle.world_plan.proofs as world_plan
mod Finds
