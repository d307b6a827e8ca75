pub use Rattle.mutex_states.specs as mutex_states
pub mod Loads
pub mod helpers
pub mod last_loads
pub mod in_order
pub mod shapes
pub mod steps
pub mod turns
