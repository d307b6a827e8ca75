pub use Rattle.run_log.specs as run_log
pub use Rattle.tc_code.specs as tc_code
pub mod Tasks
pub mod Texts
pub mod Lines
pub mod Refused
pub mod Asked
