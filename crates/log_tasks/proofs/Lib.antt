pub mod Clauses
pub mod Tasks
pub mod Refused
