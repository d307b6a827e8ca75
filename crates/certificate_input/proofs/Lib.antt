pub mod Cuts
pub mod Stages
pub mod Outcomes
pub mod LineTexts
