pub mod Few
pub mod Parts
pub mod Said
pub mod Told
