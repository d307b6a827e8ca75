pub mod Nesting
pub mod Pieces
pub mod Programs
