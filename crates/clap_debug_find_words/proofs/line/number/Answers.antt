use Rattle.std.proofs.Common.{◌∙◌, ap}
use Rattle.clap_debug_find_words.specs.CommandLine as spec
use Rattle.clap_debug_find_words.proofs.line.number.Goals as goal

pub returns-clause-rule : goal.returns-clause-rule
returns-clause-rule c = c.parsed.ensures.rule ∙ ap (spec.parsed c.args.name.now) c.unsigned.ensures
