pub use Rattle.int_ops.specs as int_ops
pub mod Laws
pub mod Sums
