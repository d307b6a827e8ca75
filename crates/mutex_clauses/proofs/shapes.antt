pub use Rattle.mutex_states.proofs as mutex_states
pub mod Again
pub mod Parts
pub mod Below
