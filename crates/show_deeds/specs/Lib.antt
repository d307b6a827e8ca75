pub use Rattle.run_history.specs as run_history
pub mod Deeds
pub mod Seen
