-- No promise refers to the definitions of this folder.
pub mod Stages
pub mod States
