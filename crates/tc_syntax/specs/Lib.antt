pub use Rattle.int_ops.specs as int_ops
pub use Rattle.tc_lexer.specs as tc_lexer
pub use Rattle.tc_tree.specs as tc_tree
pub mod Faults
pub mod helpers
