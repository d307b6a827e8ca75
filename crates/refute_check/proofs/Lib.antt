pub use Rattle.list_laws.proofs as list_laws
pub mod KeptLemmas
pub mod Checkings
pub mod Sound
pub mod Guesses
pub mod Heads
pub mod Cuts
pub mod Wholes
pub mod Written
pub mod ReadTexts
pub mod Pieces
