-- No promise names a definition of this folder: only private contracts cite them.
pub mod Verdicts
pub mod Gone
