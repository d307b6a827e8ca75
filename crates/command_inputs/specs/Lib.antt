pub use Rattle.command_frame.specs as command_frame
pub use Rattle.path_log.specs as path_log
pub use Rattle.tc_base.specs as tc_base
pub use Rattle.tc_code.specs as tc_code
pub use Rattle.tc_compile.specs as tc_compile
pub use Rattle.tc_io.specs as tc_io
pub use Rattle.tc_parser.specs as tc_parser
pub mod Limits
pub mod Refusals
pub mod Forms
pub mod Outcomes
pub mod helpers
pub mod command_ends
