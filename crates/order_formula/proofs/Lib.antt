pub mod Sources
pub mod Last
pub mod Asked
