-- No promise uses the definitions in this folder.
pub mod Paths
pub mod Turns
