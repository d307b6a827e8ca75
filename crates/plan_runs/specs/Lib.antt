pub use Rattle.condition_order.specs.lawful_order
pub use Rattle.condition_order.specs.memory_models
pub use Rattle.sym_steps.specs.path_laws
pub use Rattle.condition_order.specs.path_walk
pub use Rattle.sym_steps.specs.run_follows
pub use Rattle.sym_steps.specs.run_history
pub use Rattle.condition_order.specs.sym_exec
pub use Rattle.sym_steps.specs.sym_laws
pub use Rattle.sym_steps.specs as sym_steps
pub use Rattle.condition_order.specs.tc_base
pub use Rattle.condition_order.specs.tc_code
pub use Rattle.world_plan.specs as world_plan
