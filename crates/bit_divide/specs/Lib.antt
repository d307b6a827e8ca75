pub use Rattle.bit_shift.specs.bit_arith
pub use Rattle.bit_shift.specs as bit_shift
pub use Rattle.bit_shift.specs.int_ops
pub mod Laws
pub mod Quotients
