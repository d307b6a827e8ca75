pub use Rattle.cnf_core.specs as cnf_core
pub use Rattle.bit_gates.specs as bit_gates
pub use Rattle.bit_ops.specs as bit_ops
pub use Rattle.bit_order.specs as bit_order
pub use Rattle.bit_order.specs.bit_ranks
pub use Rattle.bit_terms.specs as bit_terms
pub use Rattle.order_formula.specs as order_formula
pub use Rattle.sym_terms.specs as sym_terms
pub mod Blasted
pub mod Cases
pub mod Contended
pub mod Drafts
pub mod Laws
pub mod Layered
pub mod Reads
pub mod Roots
pub mod Says
pub mod Sizes
pub mod Whole
pub mod helpers
