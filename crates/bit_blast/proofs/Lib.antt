pub use Rattle.bit_gates.proofs as bit_gates
pub use Rattle.bit_order.proofs as bit_order
pub use Rattle.bit_order.proofs.bit_ranks
pub use Rattle.bit_terms.proofs as bit_terms
pub use Rattle.order_formula.proofs as order_formula
pub mod CaseLaws
pub mod Clauses
pub mod Completed
pub mod Drafted
pub mod Lists
pub mod Loops
pub mod Posed
pub mod Prefixes
pub mod RootLaws
pub mod Rooted
pub mod Same
pub mod Saying
pub mod Sources
pub mod Taken
pub mod Taking
pub mod Values
pub mod Variables
pub mod WholeLaws
pub mod Within
