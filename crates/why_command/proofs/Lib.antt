pub mod PlainTexts
pub mod Explaining
pub mod ByStatus
