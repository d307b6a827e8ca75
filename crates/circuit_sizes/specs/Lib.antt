pub use Rattle.bit_ops.specs as bit_ops
pub use Rattle.sym_terms.specs as sym_terms
pub use Rattle.bit_terms.specs as bit_terms
pub mod Small
