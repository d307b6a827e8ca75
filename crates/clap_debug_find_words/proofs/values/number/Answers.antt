use Rattle.std.proofs.Common.{◌∙◌, ap}
use Rattle.std.specs.Option.{option_map_or}
use Rattle.std.specs.Str.Parse.{ParsesUnsigned, ExplainsUnsignedError, HasUnsignedDigitsIfOk}
use Rattle.clap.specs.Words.{found_of}
use Rattle.clap.proofs.WalkLemmas.{one_text-rows}
use Rattle.clap_debug_find_words.specs.Values.{number_in}
use Rattle.clap_debug_find_words.proofs.Numbers.{number_is}
use Rattle.clap_debug_find_words.proofs.values.number.Goals as goal

pub returns-clause-value : goal.returns-clause-value
returns-clause-value c =
    c.within.ensures.value
    ∙ number_is (λ bs r. ParsesUnsigned 64 10 bs r × ExplainsUnsignedError 10 bs r × HasUnsignedDigitsIfOk bs r) c.args.low c.args.high c.args.default
    c.get_one.result _ (λ t x h. h.0) c.get_one.ensures.none c.get_one.ensures.value
    ∙ ap (λ o. option_map_or (number_in c.args.low c.args.high c.args.default) o c.args.default) (one_text-rows (found_of c.args.matches.now) c.args.id.now)
