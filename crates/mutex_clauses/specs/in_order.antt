pub mod Given
pub mod helpers
