pub use Rattle.clap_solve.proofs as clap_solve
pub mod Stages
