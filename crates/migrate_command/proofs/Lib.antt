pub mod Laws
pub mod Refused
pub mod ByStatus
