-- Helpers for proofs, which no public contract mentions.
pub mod Codes
