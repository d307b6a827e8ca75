pub use Rattle.bit_arith.specs as bit_arith
pub use Rattle.bit_arith.specs.int_ops
pub mod Laws
pub mod Shifts
