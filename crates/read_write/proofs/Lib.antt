pub mod Numbers
pub mod Candidates
pub mod Exact
pub mod Formulas
pub mod Stays
pub mod Terms
pub mod Steps
pub mod Differ
