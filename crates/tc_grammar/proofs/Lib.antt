pub mod Flat
pub mod Expressions
pub mod Statements
pub mod Programs
pub mod Steps
pub mod Faults
pub mod Apart
pub mod Kept
