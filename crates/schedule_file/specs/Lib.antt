pub use Rattle.tc_limits.specs as tc_limits
pub mod Schedules
pub mod Faults
pub mod helpers
