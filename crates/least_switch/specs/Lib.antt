pub use Rattle.cdcl_core.specs as cdcl_core
pub use Rattle.clap_solve.specs as clap_solve
pub use Rattle.switch_clauses.specs as switch_clauses
pub use Rattle.switch_clauses.specs.switch_runs
pub mod Least
pub mod helpers
