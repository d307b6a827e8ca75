-- No promise mentions the definitions in this folder.
pub mod Threads
