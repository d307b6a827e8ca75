pub use Rattle.cdcl_clauses.specs as cdcl_clauses
pub mod Shown
pub mod Lessons
pub mod helpers
