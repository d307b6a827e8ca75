pub use Rattle.clap_solve.specs as clap_solve
pub use Rattle.clap_system.specs as clap_system
pub use Rattle.log_walk.specs as log_walk
pub mod LeftOut
pub mod Runs
pub mod Found
pub mod helpers
