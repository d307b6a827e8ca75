pub mod Workload
pub mod helpers
