pub use Rattle.sym_laws.proofs.path_laws
pub use Rattle.sym_laws.proofs.run_follows
pub use Rattle.sym_laws.proofs.run_history
pub use Rattle.sym_laws.proofs as sym_laws
pub mod Numbers
pub mod Places
pub mod Threads
