pub use Rattle.find_command.specs as find_command
pub use Rattle.certificate_check.specs as certificate_check
pub mod CommandLine
pub mod Values
pub mod Calls
