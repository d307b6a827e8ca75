pub use Rattle.tc_lexer.specs as tc_lexer
pub mod Words
pub mod Grammar
pub mod Node
pub mod Seen
pub mod Counts
pub mod Numbers
pub mod helpers
