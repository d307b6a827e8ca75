use Rattle.std.proofs.Common.{◌∙◌, ap}
use Rattle.cdcl_steps.proofs.Undone.{popped, detached, unlisted}
use Rattle.cdcl_steps.proofs.attaching.detach.Goals as goal

pub returns-clause-clauses : goal.returns-clause-clauses
returns-clause-clauses c = λ cs ls e. c.pop-3.ensures ∙ detached cs c.args.clauses.now ls c.args.first c.args.second e

pub returns-clause-watches : goal.returns-clause-watches
returns-clause-watches c = λ ws k e. c.pop-2.ensures ∙ ap (λ ws. popped ws c.args.first) c.pop.ensures
    ∙ unlisted ws c.args.watches.now k c.args.first c.args.second c.requires.first c.requires.second e
