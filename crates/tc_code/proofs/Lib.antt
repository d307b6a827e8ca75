pub use Rattle.int_ops.proofs as int_ops
pub use Rattle.run_log.proofs as run_log
pub use Rattle.run_log.proofs.tc_base
pub mod Facts
pub mod Ints
pub mod Texts
