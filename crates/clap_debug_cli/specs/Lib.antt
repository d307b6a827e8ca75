pub use Rattle.check_command.specs as check_command
pub use Rattle.clap_debug_words.specs as clap_debug_words
pub use Rattle.cnf_command.specs.clap_solve
pub use Rattle.cnf_command.specs as cnf_command
pub use Rattle.command_frame.specs as command_frame
pub use Rattle.list_command.specs.command_inputs
pub use Rattle.import_command.specs as import_command
pub use Rattle.least_command.specs as least_command
pub use Rattle.least_command.specs.least_switch
pub use Rattle.list_command.specs as list_command
pub use Rattle.migrate_command.specs as migrate_command
pub use Rattle.record_command.specs as record_command
pub use Rattle.check_command.specs.refutation_verdicts
pub use Rattle.replay_command.specs as replay_command
pub use Rattle.replay_command.specs.schedule_replay
pub use Rattle.solve_command.specs as solve_command
pub use Rattle.why_command.specs as why_command
pub use Rattle.workload_command.specs as workload_command
pub mod Requests
pub mod Call
pub mod Sound
