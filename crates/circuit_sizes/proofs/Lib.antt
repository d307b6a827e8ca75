pub use Rattle.bit_terms.proofs as bit_terms
pub use Rattle.bit_ops.proofs as bit_ops
pub use Rattle.sym_terms.proofs as sym_terms
pub mod Gates
pub mod Operators
pub mod Terms
