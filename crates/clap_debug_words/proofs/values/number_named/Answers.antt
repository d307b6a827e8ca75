use Rattle.std.proofs.Common.{◌∙◌, ℕ, Result, Ok, Err, subst}
use Rattle.std.specs.Str.Parse.{ParsesUnsigned}
use Rattle.clap_debug_words.proofs.Numbers.{read_number, unread_number}
use Rattle.clap_debug_words.proofs.values.number_named.Goals as goal

pub returns-in-Ok-clause-value : goal.returns-in-Ok-clause-value
returns-in-Ok-clause-value c =
    let text = c.args.text.now in
    let parsed = subst (λ r. ParsesUnsigned 64 10 text r) c.in-Ok.is c.parse.ensures.value.0 in
    c.within.ensures.value ∙ read_number c.args.low c.args.high c.in-Ok.number text parsed.1 parsed.0.0 parsed.0.1

pub returns-in-Err-clause-value : goal.returns-in-Err-clause-value
returns-in-Err-clause-value c =
    let text = c.args.text.now in
    unread_number c.args.low c.args.high text (subst (λ r. ParsesUnsigned 64 10 text r) c.in-Err.is c.parse.ensures.value.0)
