pub use Rattle.mutex_states.specs as mutex_states
pub mod Within
pub mod helpers
