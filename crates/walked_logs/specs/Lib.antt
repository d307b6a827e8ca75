pub use Rattle.normal_logs.specs as normal_logs
pub use Rattle.normal_logs.specs.run_follows
pub mod Walked
