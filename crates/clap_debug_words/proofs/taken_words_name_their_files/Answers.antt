use Rattle.clap_debug_words.proofs.Given.{taken_has_files}
use Rattle.clap_debug_words.proofs.taken_words_name_their_files.Goals as goal

pub returns : goal.returns
returns c = taken_has_files
