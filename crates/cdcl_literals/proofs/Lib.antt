pub mod Opposites
