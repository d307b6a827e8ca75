use Rattle.bit_blast.proofs.Posed.{drafts-tell}
use Rattle.bit_blast.proofs.laws.drafts_tell.Goals as goal

pub returns : goal.returns
returns c nodes formula order loads h lawful = drafts-tell nodes formula order loads h lawful
