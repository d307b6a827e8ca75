pub use Rattle.mutex_states.specs as mutex_states
pub mod Terms
pub mod Turns
pub mod helpers
