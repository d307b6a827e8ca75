-- No promise mentions the definitions in this folder; only private contracts do.
pub mod From
