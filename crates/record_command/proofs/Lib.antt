pub mod Laws
pub mod ByStatus
