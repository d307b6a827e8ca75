use Rattle.std.proofs.Common.{◌∙◌, ap, sym, Some, codes, option_map}
use Rattle.std.specs.Option.{option_map_or}
use Rattle.clap.specs.Words.{found_of}
use Rattle.clap.proofs.WalkLemmas.{first_value-rows}
use Rattle.memory_models.specs.declared.model.Model.TheVariants.{Tso}
use Rattle.clap_debug_find_words.specs.Calls.{model_named}
use Rattle.clap_debug_find_words.proofs.model_in.Goals as goal

pub returns-in-Some : goal.returns-in-Some
returns-in-Some c =
    c.model_named.ensures ∙ ap (λ o. option_map_or model_named (option_map (λ s. s.now) o) (Some Tso)) (sym c.in-Some.is)
    ∙ ap (λ o. option_map_or model_named o (Some Tso)) (c.get_str.ensures ∙ first_value-rows (found_of c.args.matches.now) (codes "model"))

pub returns-in-None : goal.returns-in-None
returns-in-None c =
    ap (λ o. option_map_or model_named (option_map (λ s. s.now) o) (Some Tso)) (sym c.in-None.is)
    ∙ ap (λ o. option_map_or model_named o (Some Tso)) (c.get_str.ensures ∙ first_value-rows (found_of c.args.matches.now) (codes "model"))
