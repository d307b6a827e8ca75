pub use Rattle.command_inputs.specs.command_ends as command_ends
pub use Rattle.log_tasks.specs as log_tasks
pub use Rattle.refute_check.specs as refute_check
pub use Rattle.switch_clauses.specs.switch_runs
pub mod Refutations
pub mod Verdicts
pub mod Causes
