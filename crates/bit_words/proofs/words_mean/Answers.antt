use Rattle.bit_words.proofs.Meaning.{words-mean}
use Rattle.bit_words.proofs.words_mean.Goals as goal

pub returns : goal.returns
returns c = words-mean
