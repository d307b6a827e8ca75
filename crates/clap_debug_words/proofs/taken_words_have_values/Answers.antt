use Rattle.clap_debug_words.proofs.Given.{taken_has_values}
use Rattle.clap_debug_words.proofs.taken_words_have_values.Goals as goal

pub returns : goal.returns
returns c = taken_has_values
