use Rattle.clap_debug_words.proofs.Plain.{plain_taken}
use Rattle.clap_debug_words.proofs.plain_words_are_taken.Goals as goal

pub returns : goal.returns
returns c = plain_taken
