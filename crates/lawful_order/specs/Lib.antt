pub use Rattle.order_formula.specs as order_formula
pub use Rattle.sym_exec.specs.run_laws
pub use Rattle.store_buffers.specs as store_buffers
pub use Rattle.sym_exec.specs as sym_exec
pub mod Events
pub mod Cells
pub mod Memory
pub mod Reads
pub mod Children
pub mod Mutexes
pub mod Conditions
pub mod Tests
pub mod Stuck
pub mod Lawful
pub mod Whole
