pub use Rattle.path_walk.specs.list_laws
pub use Rattle.path_walk.specs as path_walk
pub mod Own
