pub mod Lists
pub mod Walks
pub mod Chains
pub mod Programs
pub mod Real
