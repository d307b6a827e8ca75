pub use Rattle.bit_gates.specs as bit_gates
pub use Rattle.bit_ranks.specs as bit_ranks
pub mod Clauses
pub mod Layouts
pub mod Comparators
pub mod Readings
pub mod Laws
pub mod helpers
