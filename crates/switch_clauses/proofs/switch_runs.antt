pub use Rattle.plan_runs.proofs.order_events
pub use Rattle.order_switches.proofs as order_switches
pub use Rattle.plan_runs.proofs as plan_runs
pub use Rattle.plan_runs.proofs.world_plan
pub mod Sorted
pub mod Seen
pub mod Named
pub mod Ends
pub mod Whole
pub mod Laws
