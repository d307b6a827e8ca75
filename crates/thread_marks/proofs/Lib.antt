pub use Rattle.path_walk.proofs.list_laws
pub use Rattle.path_walk.proofs as path_walk
pub mod Owning
