pub use Rattle.tc_machine.specs as tc_machine
pub mod Verdicts
pub mod helpers
