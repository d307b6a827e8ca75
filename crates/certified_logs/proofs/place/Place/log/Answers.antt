use Rattle.std.proofs.Common.{◌≡◌, ◌∙◌, true, Some, sym, ap, subst}
use Rattle.std.proofs.lemmas.Bool.{ltb-true, ltb-false}
use Rattle.run_log.specs.Logs.{is_log}
use Rattle.tc_base.specs.declared.failing.Failing.{Failing}
use Rattle.slot_liveness.specs.Tables.{liveness}
use Rattle.certified_logs.specs.Logs.{ends_of}
use Rattle.certified_logs.proofs.Places.{items, log_there, none_ended, some_ended}
use Rattle.certified_logs.proofs.place.Place.log.Goals as goal

pub returns-in_default : goal.returns-in_default
returns-in_default c = none_ended c.args.header c.args.self.now c.in_default.is

pub returns-then-not-has_more : goal.returns-then-not-has_more
returns-then-not-has_more c =
    some_ended c.args.header c.args.self.now c.as_slice-threads.result.now (ap items c.in-Some.is ∙ ap Some (sym c.as_slice-threads.ensures.value))
    (ltb-false c.args.self.now.end (ends_of c.args.header.bounds.kind c.as_slice-threads.result.now)
    (sym c.has_more.ensures ∙ c.if-not-has_more.true))

pub log_of-requires : goal.log_of-requires
log_of-requires c =
    subst (λ (f : Failing). is_log (record { model = c.args.header.model; failing = f; threads = c.as_slice-threads.result.now }) ≡ true)
    (sym c.end_at-failing.ensures)
    (log_there c.args.code.now (liveness c.args.self.now.live) c.args.header c.args.self.now c.requires.reached c.as_slice-threads.result.now
    (ap items c.in-Some.is ∙ ap Some (sym c.as_slice-threads.ensures.value))
    (ltb-true c.args.self.now.end (ends_of c.args.header.bounds.kind c.as_slice-threads.result.now)
    (sym c.has_more.ensures ∙ c.if-not-has_more.false)))

pub returns : goal.returns
returns c = record {
  threads = c.as_slice-threads.result.now;
  last = ap items c.in-Some.is ∙ ap Some (sym c.as_slice-threads.ensures.value);
  end = ltb-true c.args.self.now.end (ends_of c.args.header.bounds.kind c.as_slice-threads.result.now)
      (sym c.has_more.ensures ∙ c.if-not-has_more.false);
  is = ap (λ l. l.log) c.in_ok-log.ensures
      ∙ ap (λ (f : Failing). record { model = c.args.header.model; failing = f; threads = c.as_slice-threads.result.now }) c.end_at-failing.ensures;
}
