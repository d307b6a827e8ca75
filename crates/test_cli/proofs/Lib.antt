pub mod Surely
pub mod Statuses
pub mod Calls
