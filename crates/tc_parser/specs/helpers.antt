-- Helpers, which no public contract mentions.
pub mod Parts
