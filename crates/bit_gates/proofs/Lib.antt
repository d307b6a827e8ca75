pub mod Blocks
pub mod Extended
pub mod Meaning
