-- Helpers, in no public contract: how the lexer reads a text.
pub mod Reading
