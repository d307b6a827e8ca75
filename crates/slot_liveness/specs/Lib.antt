pub use Rattle.pure_turns.specs as pure_turns
pub mod Tables
pub mod helpers
