use Rattle.std.proofs.Common.{◌∙◌, ap, sym, Some, option_map}
use Rattle.clap.specs.Words.{found_of, rows_of}
use Rattle.clap_debug_find_words.specs.Calls.{Searches, search_in}
use Rattle.clap_debug_find_words.proofs.search_call.Goals as goal

pub returns-in-Some : goal.returns-in-Some
returns-in-Some c =
    let rows = rows_of (found_of c.args.matches.now) in
    ap (λ s. Some (Searches s)) c.search_in.ensures
    ∙ ap (option_map (λ model. Searches (search_in model rows))) (sym c.in-Some.is ∙ c.model_in.ensures)

pub returns-in-None : goal.returns-in-None
returns-in-None c =
    let rows = rows_of (found_of c.args.matches.now) in
    ap (option_map (λ model. Searches (search_in model rows))) (sym c.in-None.is ∙ c.model_in.ensures)
