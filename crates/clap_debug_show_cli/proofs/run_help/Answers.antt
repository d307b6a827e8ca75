use Rattle.std.proofs.Common.{[], ◌∷◌, IfSome, subst}
use Rattle.command_frame.specs.Inputs.{texts_under}
use Rattle.command_frame.specs.Run.{RunsOver}
use Rattle.clap_debug_show_cli.specs.Commands.{help_over}
use Rattle.clap_debug_show_cli.proofs.run_help.Goals as goal

pub returns-clause-runs : goal.returns-clause-runs
returns-clause-runs g c = rw c.new-help.ensures at c.run.ensures.runs

pub returns-clause-over : goal.returns-clause-over
returns-clause-over g c =
    let held = (g.H.Shelf.tells c.args.shelf.now).held in
    let before = g.K.Sink.tells c.args.sink.now in
    let after = g.K.Sink.tells c.run.new.sink in
    subst (λ w. IfSome held (λ files. RunsOver (help_over (w ∷ [])) (texts_under files (w ∷ [])) c.run.result before after)) c.new-help.ensures
    c.run.ensures.over
