pub use Rattle.least_switch.specs as least_switch
pub mod Calls
pub mod Meanings
pub mod Answers
pub mod helpers
