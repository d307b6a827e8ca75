pub use Rattle.tc_base.specs as tc_base
pub mod Runs
pub mod Logs
pub mod Lines
pub mod Meanings
pub mod Answers
