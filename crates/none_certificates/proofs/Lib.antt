pub mod Headers
pub mod LogLines
pub mod Wholes
