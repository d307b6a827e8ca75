pub use Rattle.command_frame.proofs as command_frame
pub use Rattle.path_log.proofs as path_log
pub use Rattle.tc_compile.proofs as tc_compile
pub use Rattle.tc_compile.proofs.tc_lower
pub use Rattle.tc_parser.proofs as tc_parser
pub mod Pairs
pub mod Schedules
