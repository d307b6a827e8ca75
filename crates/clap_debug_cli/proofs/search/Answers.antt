use Rattle.std.proofs.Common.{option_map, subst, sym}
use Rattle.command_frame.specs.Run.{Runs}
use Rattle.least_command.specs.Meanings.{least_of}
use Rattle.solve_command.specs.Calls.{plain_solve}
use Rattle.clap_debug_cli.specs.Call.{RunsSearch}
use Rattle.clap_debug_cli.proofs.search.Goals as goal

pub returns-in-Some : goal.returns-in-Some
returns-in-Some g c =
    let old = g.H.Shelf.tells c.args.shelf.now in
    let new = g.H.Shelf.tells c.find_least.new.shelf in
    let before = g.K.Sink.tells c.args.sink.now in
    let after = g.K.Sink.tells c.find_least.new.sink in
    let runs = subst (λ call. Runs (least_of call) old new c.find_least.result before after) c.minimized.ensures c.find_least.ensures.runs in
    subst (λ name. RunsSearch (plain_solve c.args.solve.now) (option_map (λ s. s.now) name) old new c.find_least.result before after) (sym c.in-Some.is) runs

pub returns-in-None : goal.returns-in-None
returns-in-None g c =
    let old = g.H.Shelf.tells c.args.shelf.now in
    let new = g.H.Shelf.tells c.solve_log.new.shelf in
    let before = g.K.Sink.tells c.args.sink.now in
    let after = g.K.Sink.tells c.solve_log.new.sink in
    subst (λ name. RunsSearch (plain_solve c.args.solve.now) (option_map (λ s. s.now) name) old new c.solve_log.result before after) (sym c.in-None.is)
    c.solve_log.ensures.runs
