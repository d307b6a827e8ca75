pub use Rattle.clap_solve.specs as clap_solve
pub use Rattle.clap_solve.specs.store_buffers
pub mod Clauses
pub mod switch_runs
