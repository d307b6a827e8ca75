-- No promise refers to the definitions of this folder; only private contracts do.
pub mod Marked
