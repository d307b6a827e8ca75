-- No promise names a definition of this folder: only private contracts cite them.
pub mod Descents
pub mod Rounds
