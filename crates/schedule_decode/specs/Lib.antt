pub use Rattle.world_moves.specs.path_laws
pub use Rattle.world_moves.specs.run_follows
pub use Rattle.world_moves.specs.run_history
pub use Rattle.world_moves.specs.sym_laws
pub use Rattle.world_moves.specs.world_plan
pub mod Decodable
