pub use Rattle.int_ops.proofs as int_ops
pub mod Rows
pub mod Values
pub mod Meaning
