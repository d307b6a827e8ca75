pub mod Laid
pub mod Lists
