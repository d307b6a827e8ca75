pub mod Stuck
