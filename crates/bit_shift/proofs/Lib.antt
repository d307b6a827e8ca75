pub use Rattle.bit_arith.proofs as bit_arith
pub mod Moves
pub mod Meaning
