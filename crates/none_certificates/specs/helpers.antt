-- No promise uses the definitions in this folder.
pub mod Guess
