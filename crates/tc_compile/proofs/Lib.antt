pub use Rattle.tc_lower.proofs as tc_lower
pub use Rattle.tc_parser.proofs as tc_parser
pub mod Lawful
pub mod OnePrograms
