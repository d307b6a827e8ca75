use Rattle.std.proofs.Common.{subst, sym}
use Rattle.clap_debug_find_words.specs.Calls.{plain_call}
use Rattle.clap_debug_find_cli.specs.Call.{RunsCall}
use Rattle.clap_debug_find_cli.proofs.run_call.Goals as goal

pub returns-in-Search : goal.returns-in-Search
returns-in-Search g c =
    let old = g.H.Shelf.tells c.args.shelf.now in
    let new = g.H.Shelf.tells c.search_program.new.shelf in
    let before = g.K.Sink.tells c.args.sink.now in
    let after = g.K.Sink.tells c.search_program.new.sink in
    subst (λ call. RunsCall (plain_call call) old new c.search_program.result before after) (sym c.in-Search.is) c.search_program.ensures.runs

pub returns-in-Check : goal.returns-in-Check
returns-in-Check g c =
    let old = g.H.Shelf.tells c.args.shelf.now in
    let new = g.H.Shelf.tells c.check_certificate.new.shelf in
    let before = g.K.Sink.tells c.args.sink.now in
    let after = g.K.Sink.tells c.check_certificate.new.sink in
    subst (λ call. RunsCall (plain_call call) old new c.check_certificate.result before after) (sym c.in-Check.is) c.check_certificate.ensures.runs
