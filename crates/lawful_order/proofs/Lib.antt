pub use Rattle.sym_exec.proofs.run_laws
