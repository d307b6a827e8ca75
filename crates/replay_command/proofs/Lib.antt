pub mod OneReplay
pub mod ByFiles
pub mod Refused
