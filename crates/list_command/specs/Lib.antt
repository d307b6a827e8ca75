pub use Rattle.command_inputs.specs as command_inputs
pub mod Listing
pub mod Answers
