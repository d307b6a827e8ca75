pub use Rattle.refutation_verdicts.specs as refutation_verdicts
pub mod Meanings
pub mod Answers
pub mod Laws
pub mod helpers
