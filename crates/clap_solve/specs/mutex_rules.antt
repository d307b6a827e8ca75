pub use Rattle.clap_system.specs as clap_system
pub use Rattle.mutex_states.specs as mutex_states
