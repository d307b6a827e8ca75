-- No promise uses the definitions in this folder.
pub mod CanDo
pub mod Movers
