pub use Rattle.int_ops.proofs as int_ops
pub mod Same
pub mod Growth
pub mod Folds
