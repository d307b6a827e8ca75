pub mod Next
pub mod Texts
pub mod helpers
