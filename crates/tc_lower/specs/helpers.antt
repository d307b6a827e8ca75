-- Helpers, which no public contract mentions.
pub mod Seen
pub mod Bodies
pub mod Programs
