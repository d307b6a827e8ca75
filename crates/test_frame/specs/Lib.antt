pub mod Join
pub mod Glue
