use Rattle.slot_liveness.specs.Tables.{liveness}
use Rattle.certified_logs.proofs.Places.{is_next}
use Rattle.certified_logs.proofs.Promised.{unfit_so}
use Rattle.certified_logs.proofs.place.Place.turn.Goals as goal

pub go_on-requires-clause-gone : goal.go_on-requires-clause-gone
go_on-requires-clause-gone c = rw c.in_default.is at c.in_ok-log.ensures

pub returns-in-Ok : goal.returns-in-Ok
returns-in-Ok c = (c.requires.at, rw c.in-Some.is at c.in_ok-log.ensures, c.in-Ok.ensures.within, c.in-Ok.ensures.checker)

pub rule_out-requires : goal.rule_out-requires
rule_out-requires c =
    (c.args.code.now, c.args.header, c.in-Some.log.log, c.requires.at, rw c.in-Some.is at c.in_ok-log.ensures)

pub returns-in-Err-Walk : goal.returns-in-Err-Walk
returns-in-Err-Walk c =
    c.rule_out.ensures c.args.code.now c.args.header c.in-Some.log.log c.requires.at (rw c.in-Some.is at c.in_ok-log.ensures)
    (unfit_so c.args.code.now c.requires.lawful c.args.header.model c.in-Some.log.log c.in-Err-Walk.field-0-0
    (rw c.in-Err-Walk.field-0-is at c.in-Err-Walk.ensures.fault))

pub returns-in-Err-Limit : goal.returns-in-Err-Limit
returns-in-Err-Limit c = (
  c.in-Some.log.log,
  is_next c.args.code.now (liveness c.args.self.now.live) c.args.header c.args.self.now c.requires.at.reached c.in-Some.log.log (rw c.in-Some.is at c.in_ok-log.ensures),
  rw c.in-Err-Limit.field-0-is at c.in-Err-Limit.ensures.fault,
)
