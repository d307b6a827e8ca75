pub mod Literals
pub mod Lines
pub mod Keeping
pub mod Orders
pub mod Fresh
pub mod Models
