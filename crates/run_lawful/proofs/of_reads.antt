pub mod Writes
pub mod Loads
pub mod Order
pub mod Own
pub mod Accesses
pub mod Takes
