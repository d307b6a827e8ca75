-- No promise refers to the definitions of this folder.
pub mod Blocks
pub mod Checkers
pub mod Given
pub mod Guess
pub mod Pieces
