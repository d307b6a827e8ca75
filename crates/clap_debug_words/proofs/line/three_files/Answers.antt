use Rattle.clap_debug_words.proofs.line.three_files.Goals as goal

pub returns : goal.returns
returns c = c.with.ensures _ _ c.two_files.ensures c.positional.ensures.rule
