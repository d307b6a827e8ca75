pub mod Follow
pub mod Nobody
pub mod Cells
