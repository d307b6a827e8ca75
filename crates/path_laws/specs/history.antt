pub mod Along
pub mod Next
