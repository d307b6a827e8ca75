pub use Rattle.bit_ranks.specs as bit_ranks
pub mod world
