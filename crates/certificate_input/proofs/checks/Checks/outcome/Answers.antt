use Rattle.std.proofs.Common.{sym, subst}
use Rattle.certificate_input.specs.Checked.{IsChecked}
use Rattle.slot_liveness.specs.Tables.{liveness}
use Rattle.certified_logs.proofs.Places.{is_next}
use Rattle.certificate_input.proofs.Outcomes.{judged_so, next_open, open_so}
use Rattle.certificate_input.proofs.checks.Checks.outcome.Goals as goal

pub returns-in-None : goal.returns-in-None
returns-in-None c = λ bytes has. open_so c.args.code.now bytes c.args.self.header has (rw c.in-None.is at c.in_ok-next.ensures.next)

pub returns-in-Some-Log : goal.returns-in-Some-Log
returns-in-Some-Log c = λ bytes has.
    let is = rw c.in-Some-Log.field-0-is at (rw c.in-Some-Log.is at c.in_ok-next.ensures.next) in
    next_open c.args.code.now bytes c.args.self.header has _ (is_next c.args.code.now (liveness c.next.new.self.place.live) c.args.self.header c.next.new.self.place is.0.reached _ is.1)

pub returns : goal.returns
returns c = λ bytes has.
    let done = rw c.in-Some-Done.field-0-is at (rw c.in-Some-Done.is at c.in_ok-next.ensures.next) in
    subst (IsChecked c.args.code.now bytes) (sym c.judged.ensures)
    (judged_so c.args.code.now bytes c.functions-functions.ensures.lawful c.args.self.header c.in-Some-Done.out has
    (liveness c.next.new.self.place.live) done.0 done.1)
