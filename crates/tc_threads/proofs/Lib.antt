pub use Rattle.run_laws.proofs as run_laws
pub mod ByName
pub mod NameSets
