pub use Rattle.run_laws.specs.tc_base
pub use Rattle.run_laws.specs.tc_code
pub mod Live
pub mod Turn
