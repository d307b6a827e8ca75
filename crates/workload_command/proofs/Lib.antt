pub mod Worked
pub mod ByStatus
