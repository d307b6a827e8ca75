pub use Rattle.cnf_core.specs as cnf_core
pub use Rattle.tc_decimal.specs as tc_decimal
pub mod Answers
pub mod Faults
pub mod Texts
pub mod Values
pub mod helpers
