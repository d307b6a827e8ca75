pub use Rattle.bit_ranks.proofs as bit_ranks
pub mod Lawful
pub mod of_world
pub mod of_own
pub mod of_reads
pub mod of_waits
