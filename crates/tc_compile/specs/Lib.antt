pub use Rattle.tc_parser.specs as tc_parser
pub mod Programs
pub mod helpers
