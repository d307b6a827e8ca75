-- Helpers for proofs, which no public contract mentions.
pub mod CodedExpr
pub mod Falls
pub mod CodedCode
