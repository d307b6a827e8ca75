pub use Rattle.tc_limits.specs as tc_limits
pub mod Migrated
pub mod Meanings
pub mod Answers
