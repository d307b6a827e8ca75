pub mod Runs
pub mod Decimals
