pub mod Links
pub mod Guarding
pub mod Looking
pub mod Visiting
