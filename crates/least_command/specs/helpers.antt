pub mod Asked
pub mod Below
pub mod Lines
