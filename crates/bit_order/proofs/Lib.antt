pub use Rattle.bit_ranks.proofs as bit_ranks
pub mod Ranges
pub mod Counts
pub mod ClauseLaws
pub mod WordLaws
pub mod Compared
pub mod Three
pub mod Asking
pub mod Chosen
pub mod Saying
pub mod Meaning
