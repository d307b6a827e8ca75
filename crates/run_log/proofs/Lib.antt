pub use Rattle.tc_base.proofs as tc_base
pub mod Rising
pub mod Digests
