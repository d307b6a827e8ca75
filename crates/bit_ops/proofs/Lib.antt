pub use Rattle.bit_arith.proofs as bit_arith
pub use Rattle.bit_words.proofs as bit_words
pub mod Bits
pub mod Meaning
