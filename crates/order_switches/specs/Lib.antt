pub use Rattle.order_formula.specs.int_ops
pub use Rattle.order_formula.specs as order_formula
pub use Rattle.order_formula.specs.sym_terms
pub mod Switches
pub mod Levels
