-- Helpers, in no public contract: for private contracts, and proofs of the three models' laws.
pub mod Seen
pub mod Lists
pub mod Segments
pub mod Partial
pub mod Sequential
pub mod Total
