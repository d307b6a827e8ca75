pub mod ByName
pub mod Kept
pub mod Pieces
