pub mod Glues
