pub mod Clauses
pub mod Gates
pub mod helpers
