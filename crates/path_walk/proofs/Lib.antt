pub use Rattle.list_laws.proofs as list_laws
pub use Rattle.run_log.proofs as run_log
pub use Rattle.tc_base.proofs as tc_base
pub use Rattle.tc_code.proofs as tc_code
pub mod Faults
pub mod Places
pub mod Drafts
pub mod Counts
