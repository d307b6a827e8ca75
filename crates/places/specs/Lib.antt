pub mod Places
pub mod helpers
pub mod code_loops
