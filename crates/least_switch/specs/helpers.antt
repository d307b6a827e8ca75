-- No promise refers to the definitions of this folder; only private contracts do.
pub mod Bounded
pub mod Found
pub mod Levels
