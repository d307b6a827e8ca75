use Rattle.std.proofs.Common.{◌≡◌, ◌∙◌, refl, ap, Option, Some, None, is_some, option_map}
use Rattle.clap.specs.Words.{found_of}
use Rattle.clap.proofs.WalkLemmas.{first_value-rows}
use Rattle.clap_debug_find_words.proofs.values.has_value.Goals as goal

is_some_of : {A B : Type 0} (f : A → B) (o : Option A) → is_some o ≡ is_some (option_map f o)
is_some_of f None = refl
is_some_of f (Some a) = refl

pub returns : goal.returns
returns c =
    c.is_some.ensures ∙ is_some_of (λ s. s.now) c.get_str.result
    ∙ ap is_some (c.get_str.ensures ∙ first_value-rows (found_of c.args.matches.now) c.args.id.now)
