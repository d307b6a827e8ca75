pub use Rattle.sym_terms.specs.int_ops
pub use Rattle.sym_terms.specs as sym_terms
pub mod Worlds
pub mod Reads
pub mod Formulas
pub mod Truth
pub mod Orders
pub mod Groups
