pub use Rattle.tc_threads.specs.run_laws
pub mod Exits
pub mod Moves
pub mod Why
pub mod helpers
