pub use Rattle.certified_logs.specs as certified_logs
pub mod Cuts
pub mod Wrong
pub mod Checked
pub mod helpers
