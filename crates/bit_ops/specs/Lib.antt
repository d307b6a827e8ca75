pub use Rattle.bit_arith.specs as bit_arith
pub use Rattle.bit_words.specs as bit_words
pub mod Laws
pub mod Ops
pub mod Sizes
