pub mod Lists
pub mod Fronts
pub mod Lines
pub mod Schedules
