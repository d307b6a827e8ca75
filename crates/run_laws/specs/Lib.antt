pub use Rattle.tc_code.specs.int_ops
pub use Rattle.tc_code.specs.run_log
pub use Rattle.tc_code.specs.tc_base
pub use Rattle.tc_code.specs as tc_code
pub mod Alone
pub mod Counters
pub mod Ints
pub mod Laws
pub mod Whole
pub mod helpers
