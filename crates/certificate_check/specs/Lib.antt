pub use Rattle.certificate_input.specs as certificate_input
pub mod Lines
pub mod Meanings
pub mod Answers
pub mod helpers
