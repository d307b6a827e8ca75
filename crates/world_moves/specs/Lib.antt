pub use Rattle.order_cells.specs as order_cells
pub use Rattle.world_plan.specs.path_laws
pub use Rattle.world_plan.specs.run_follows
pub use Rattle.world_plan.specs.run_history
pub use Rattle.world_plan.specs.sym_laws
pub use Rattle.world_plan.specs as world_plan
pub mod Moves
pub mod Needs
