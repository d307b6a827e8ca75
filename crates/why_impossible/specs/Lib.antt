pub mod Enders
pub mod Explained
pub mod Reasons
pub mod helpers
pub mod refute_core
pub mod reached_groups
