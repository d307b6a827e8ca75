pub mod WorldOf
pub mod Order
