use Rattle.std.proofs.Common.{sym, subst}
use Rattle.certificate_input.specs.Checked.{IsChecked}
use Rattle.certificate_input.specs.helpers.Incoming.{IsStage}
use Rattle.certificate_input.proofs.Outcomes.{ended_so}
use Rattle.certificate_input.proofs.incoming.Incoming.outcome.Goals as goal

pub returns-in-Ends : goal.returns-in-Ends
returns-in-Ends c = λ bytes was.
    subst (IsChecked c.args.self.code bytes) (sym c.ended.ensures)
    (ended_so c.args.self.code bytes c.in-Ends.number c.in-Ends.wrong
    (subst (IsStage c.args.self.code bytes c.args.self.unfinished.items c.args.self.line) c.in-Ends.is was))
