pub mod Things
pub mod Values
pub mod Statements
pub mod Lowering
pub mod Kinds
pub mod helpers
