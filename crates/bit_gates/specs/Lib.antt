pub mod Extended
pub mod Folded
pub mod Laws
