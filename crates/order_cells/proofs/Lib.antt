pub use Rattle.sym_exec.proofs.run_laws
pub use Rattle.sym_exec.proofs as sym_exec
pub use Rattle.sym_exec.proofs.tc_base
pub mod Needs
pub mod Told
pub mod Stay
