use Rattle.std.proofs.Common.{◌≡◌, ◌∙◌, Some, Vec, Global, sym, ap, refl, subst}
use Rattle.std.proofs.lemmas.Option.{IfSome_then}
use Rattle.run_log.specs.declared.log.ThreadPath.{ThreadPath as LogThread}
use Rattle.log_walk.specs.Given.{Given, IsFirst}
use Rattle.slot_liveness.specs.Tables.{liveness}
use Rattle.certified_logs.specs.Logs.{first_end}
use Rattle.certified_logs.specs.Places.{AllAreDone, AreReached, last_of}
use Rattle.certified_logs.proofs.Places.{at_threads, items, level_done, next_reached}
use Rattle.certified_logs.proofs.place.Place.go_on.Goals as goal

pub following-requires : goal.following-requires
following-requires c = IfSome_then (last_of c.args.self.now) c.requires.at.reached.last (λ ts r. r.one)

pub raise-requires : goal.raise-requires
raise-requires c =
    let p = c.args.self.now in
    let h = c.args.header in
    let given : Given = record { threads = items c.given.inside.threads; out = c.given.inside.out } in
    let first : IsFirst c.args.code.now (liveness p.live) (record { kind = h.bounds.kind; most = p.level }) (last_of p) given =
    subst (IsFirst c.args.code.now (liveness p.live) (record { kind = h.bounds.kind; most = p.level }) (last_of p)) (sym c.given.view_is) c.in_ok-given.ensures in (
      c.args.code.now,
      c.requires.at,
      subst (AllAreDone c.args.code.now (liveness p.live) (record h { bounds = record { kind = h.bounds.kind; most = p.level } })) (sym c.both-out.ensures)
          (level_done c.args.code.now (liveness p.live) h p c.requires.at.reached c.requires.at.closed c.requires.gone given first (ap items c.in_default.is)),
    )

pub returns-in_default : goal.returns-in_default
returns-in_default c =
    let p = c.args.self.now in
    let h = c.args.header in
    let given : Given = record { threads = items c.given.inside.threads; out = c.given.inside.out } in
    let first : IsFirst c.args.code.now (liveness p.live) (record { kind = h.bounds.kind; most = p.level }) (last_of p) given =
    subst (IsFirst c.args.code.now (liveness p.live) (record { kind = h.bounds.kind; most = p.level }) (last_of p)) (sym c.given.view_is) c.in_ok-given.ensures in
    c.raise.ensures c.args.code.now c.requires.at
    (subst (AllAreDone c.args.code.now (liveness p.live) (record h { bounds = record { kind = h.bounds.kind; most = p.level } })) (sym c.both-out.ensures)
    (level_done c.args.code.now (liveness p.live) h p c.requires.at.reached c.requires.at.closed c.requires.gone given first (ap items c.in_default.is)))

pub returns : goal.returns
returns c =
    let p = c.args.self.now in
    let h = c.args.header in
    let given : Given = record { threads = items c.given.inside.threads; out = c.given.inside.out } in
    let first : IsFirst c.args.code.now (liveness p.live) (record { kind = h.bounds.kind; most = p.level }) (last_of p) given =
    subst (IsFirst c.args.code.now (liveness p.live) (record { kind = h.bounds.kind; most = p.level }) (last_of p)) (sym c.given.view_is) c.in_ok-given.ensures in
    let us = c.in-Some.threads.items in
    let same : c.deref.result.now ≡ us = c.deref.ensures.value ∙ ap (λ (v : Vec LogThread Global). v.items) c.in-Some.threads-is in
    let end : c.first_end-self.result ≡ first_end p.level h.bounds.kind us = c.first_end-self.ensures ∙ ap (first_end p.level h.bounds.kind) same in
    record {
      closed = c.requires.at.closed;
      reached = at_threads c.args.code.now (liveness p.live) h p _ c.requires.at.reached refl us (ap (λ (v : Vec LogThread Global). Some v.items) c.in-Some.threads-is)
          (subst (λ n. AreReached c.args.code.now (liveness p.live) h p.level n c.both-out.result us) (sym end)
          (subst (λ o. AreReached c.args.code.now (liveness p.live) h p.level (first_end p.level h.bounds.kind us) o us) (sym c.both-out.ensures)
          (next_reached c.args.code.now (liveness p.live) h p c.requires.at.reached c.requires.at.closed c.requires.gone given first us (ap items c.in-Some.is))));
    }
