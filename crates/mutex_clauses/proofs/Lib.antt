pub use Rattle.mutex_states.proofs as mutex_states
pub mod Counted
pub mod Drafts
pub mod Next
pub mod Made
