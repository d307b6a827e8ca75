pub use Rattle.order_events.proofs as order_events
pub use Rattle.path_walk.proofs as path_walk
pub use Rattle.order_events.proofs.run_laws
pub use Rattle.path_walk.proofs.tc_base
pub mod Truth
pub mod Among
pub mod Meets
pub mod Groups
pub mod Exact
pub mod Atoms
pub mod Within
pub mod Steps
