pub use Rattle.world_moves.proofs.path_laws
pub use Rattle.world_moves.proofs.run_history
pub use Rattle.world_moves.proofs.sym_laws
mod Finds
mod Made
mod Runs
mod Stores
mod Events
mod Rest
mod Decoded
mod Known
mod Tellable
mod Text
mod Told
