use Rattle.std.proofs.Common.{◌∙◌, ap}
use Rattle.clap.specs.Words.{found_of}
use Rattle.clap.proofs.WalkLemmas.{first_value-rows}
use Rattle.clap_debug_find_words.specs.Values.{is_true}
use Rattle.clap_debug_find_words.proofs.values.is_given.Goals as goal

pub returns : goal.returns
returns c = c.is_true.ensures ∙ ap is_true (c.get_str.ensures ∙ first_value-rows (found_of c.args.matches.now) c.args.id.now)
