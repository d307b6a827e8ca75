-- No promise uses the definitions in this folder; only private contracts do.
pub mod Own
