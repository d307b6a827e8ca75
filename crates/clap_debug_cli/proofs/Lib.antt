pub mod Heard
pub mod Told
pub mod Sound
pub mod Recorded
pub mod Accepted
