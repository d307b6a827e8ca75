pub mod Merge
pub mod Plays
pub mod Stuck
pub mod OneVerdict
