use Rattle.std.proofs.Common.{IfSome, subst}
use Rattle.command_frame.specs.Inputs.{texts_under}
use Rattle.command_frame.specs.Run.{RunsOver}
use Rattle.clap_debug_show_cli.specs.Calls.{plain_showing}
use Rattle.clap_debug_show_cli.specs.Commands.{file_inputs, show_over}
use Rattle.clap_debug_show_cli.proofs.run_show.Goals as goal

pub returns-clause-runs : goal.returns-clause-runs
returns-clause-runs g c = rw (c.new-show.ensures.inputs, c.new-show.ensures.showing) at c.run.ensures.runs

pub returns-clause-over : goal.returns-clause-over
returns-clause-over g c =
    let held = (g.H.Shelf.tells c.args.shelf.now).held in
    let before = g.K.Sink.tells c.args.sink.now in
    let after = g.K.Sink.tells c.run.new.sink in
    let asked = file_inputs (plain_showing c.args.showing) in
    let own = plain_showing c.new-show.result.showing in
    let over = subst (λ ws. IfSome held (λ files. RunsOver (show_over own ws) (texts_under files ws) c.run.result before after))
    c.new-show.ensures.inputs c.run.ensures.over in
    subst (λ call. IfSome held (λ files. RunsOver (show_over call asked) (texts_under files asked) c.run.result before after))
    c.new-show.ensures.showing over
