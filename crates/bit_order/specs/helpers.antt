-- No promise refers to the definitions of this folder.
pub mod Asked
pub mod Held
pub mod Places
