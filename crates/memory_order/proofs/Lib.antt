pub use Rattle.order_cells.proofs as order_cells
pub use Rattle.sym_terms.proofs as sym_terms
pub mod Twos
pub mod Keeping
pub mod Exact
pub mod Stay
pub mod Within
pub mod Pushes
