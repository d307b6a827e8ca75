pub mod Rules
pub mod Tests
pub mod Stated
pub mod Worlds
