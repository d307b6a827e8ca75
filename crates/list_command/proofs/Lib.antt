pub mod ByProgram
