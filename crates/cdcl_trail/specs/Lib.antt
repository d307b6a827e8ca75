pub mod Trail
pub mod helpers
