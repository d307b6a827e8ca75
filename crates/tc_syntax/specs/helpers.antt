-- Helpers, which no public contract mentions.
pub mod Reading
pub mod Read
