pub mod Clauses
pub mod Invariants
pub mod helpers
