use Rattle.std.proofs.Common.{◌∙◌, ap, sym, cond, Some, None}
use Rattle.clap.specs.Words.{found_of, rows_of}
use Rattle.clap_debug_find_words.specs.Calls.{Checks, check_in}
use Rattle.clap_debug_find_words.proofs.check_call.Goals as goal

pub returns-then-has_options : goal.returns-then-has_options
returns-then-has_options c =
    let rows = rows_of (found_of c.args.matches.now) in
    ap (λ b. cond b None (Some (Checks (check_in rows)))) (sym c.if-has_options.true ∙ c.has_options.ensures)

pub returns-else-has_options : goal.returns-else-has_options
returns-else-has_options c =
    let rows = rows_of (found_of c.args.matches.now) in
    ap (λ k. Some (Checks k)) c.check_in.ensures
    ∙ ap (λ b. cond b None (Some (Checks (check_in rows)))) (sym c.if-has_options.false ∙ c.has_options.ensures)
