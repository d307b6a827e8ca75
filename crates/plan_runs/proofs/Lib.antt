pub use Rattle.condition_order.proofs.order_events
pub use Rattle.sym_steps.proofs.path_laws
pub use Rattle.sym_steps.proofs.run_follows
pub use Rattle.sym_steps.proofs.run_history
pub use Rattle.condition_order.proofs.run_laws
pub use Rattle.sym_events.proofs as sym_events
pub use Rattle.sym_steps.proofs.sym_laws
pub use Rattle.world_plan.proofs as world_plan
pub mod Histories
pub mod Given
pub mod Deeds
pub mod May
pub mod Next
pub mod Steps
pub mod Goes
pub mod End
pub mod Rest
pub mod Runs
pub mod Laws
pub mod of_memory
pub mod of_waits
