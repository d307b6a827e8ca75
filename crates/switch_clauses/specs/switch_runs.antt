pub use Rattle.plan_runs.specs.lawful_order
pub use Rattle.plan_runs.specs.memory_models
pub use Rattle.order_switches.specs as order_switches
pub use Rattle.plan_runs.specs.path_laws
pub use Rattle.plan_runs.specs.run_follows
pub use Rattle.plan_runs.specs.tc_base
pub use Rattle.plan_runs.specs.world_plan
pub mod Switches
pub mod Worlds
