pub use Rattle.clap_solve.specs as clap_solve
pub use Rattle.log_tasks.specs as log_tasks
pub mod Calls
pub mod Lines
pub mod Meanings
pub mod Answers
pub mod helpers
