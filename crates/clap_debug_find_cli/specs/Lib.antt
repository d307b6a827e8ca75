pub use Rattle.certificate_check.specs as certificate_check
pub use Rattle.clap_debug_find_words.specs as clap_debug_find_words
pub use Rattle.find_command.specs as find_command
pub mod Call
