use Rattle.std.proofs.Common.{◌∙◌, ap, sym, cond}
use Rattle.clap.specs.Words.{found_of, rows_of}
use Rattle.clap_debug_find_words.specs.Calls.{check_call, search_call}
use Rattle.clap_debug_find_words.proofs.call_in.Goals as goal

pub returns-then-is_given : goal.returns-then-is_given
returns-then-is_given c =
    let rows = rows_of (found_of c.args.matches.now) in
    c.check_call.ensures ∙ ap (λ b. cond b (check_call rows) (search_call rows)) (sym c.if-is_given.true ∙ c.is_given.ensures)

pub returns-else-is_given : goal.returns-else-is_given
returns-else-is_given c =
    let rows = rows_of (found_of c.args.matches.now) in
    c.search_call.ensures ∙ ap (λ b. cond b (check_call rows) (search_call rows)) (sym c.if-is_given.false ∙ c.is_given.ensures)
