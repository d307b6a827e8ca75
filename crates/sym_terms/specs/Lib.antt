pub use Rattle.int_ops.specs as int_ops
pub mod Terms
pub mod Values
