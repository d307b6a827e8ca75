pub use Rattle.find_failures.specs as find_failures
pub use Rattle.kept_logs.specs as kept_logs
pub use Rattle.certified_logs.specs as certified_logs
pub use Rattle.log_limits.specs as log_limits
pub mod Calls
pub mod Lines
pub mod Findings
pub mod Meanings
pub mod Answers
