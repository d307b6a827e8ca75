pub use Rattle.bit_shift.proofs.bit_arith
pub use Rattle.bit_shift.proofs as bit_shift
pub mod Meaning
pub mod Moves
