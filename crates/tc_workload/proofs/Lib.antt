pub mod Rising
pub mod Sizes
pub mod Lists
