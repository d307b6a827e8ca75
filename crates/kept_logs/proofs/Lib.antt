pub use Rattle.path_log.proofs as path_log
pub mod Digests
