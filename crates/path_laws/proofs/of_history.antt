pub mod Told
pub mod Walks
pub mod Places
pub mod Next
pub mod Stays
pub mod Whole
pub mod Logged
