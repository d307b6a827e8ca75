pub mod Opposites
pub mod Trails
pub mod Cuts
