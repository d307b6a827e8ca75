pub use Rattle.mutex_regions.proofs as mutex_regions
pub use Rattle.bit_blast.proofs as bit_blast
pub use Rattle.circuit_sizes.proofs as circuit_sizes
pub use Rattle.bit_order.proofs.bit_ranks as bit_ranks
pub mod Extending
pub mod Walking
pub mod Literals
pub mod Loops
pub mod RankLaws
pub mod Words
pub mod Turns
pub mod Pool
pub mod Steps
pub mod AllTurns
pub mod Conjunctions
pub mod Short
pub mod Ordered
pub mod Acting
pub mod Larger
pub mod Bounds
pub mod AllMutexes
pub mod Differing
pub mod Expressions
pub mod StepsReady
pub mod LastLoads
pub mod OneMutex
pub mod Keeping
