pub mod Stops
pub mod Picks
pub mod Syntax
pub mod Shapes
pub mod Missed
