-- No promise refers to the definitions of this folder.
pub mod Over
